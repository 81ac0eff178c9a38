use Rattle.records.specs.Words.{ap, ◌∙◌, on_ok_weaker, honest_before, Table, table_of, without_row, table_of-remove}
use Rattle.records.specs.declared.kind.Kind.TheVariants as kind
use Rattle.wrapping.proofs.dropping.remove.Goals as goal

pub returns-clause-rows : goal.returns-clause-rows
returns-clause-rows g c honest =
    let seen = g.T.RecordsTx.seen in
    let mid = honest_before (seen c.remove.new.self) (seen c.remove-2.new.self) _
    c.remove-2.ensures.call.goes_on honest in
    let t = c.args.token.now in
    let a = c.args.accessor.now in
    on_ok_weaker c.remove-2.result (λ rows.
    ap table_of rows ∙ table_of-remove (seen c.remove.new.self).rows kind.Waiting t
    ∙ ap (λ (r : Table). without_row r kind.Waiting t)
    (ap table_of (c.in_ok-remove.ensures.rows mid) ∙ table_of-remove (seen c.args.tx.now).rows kind.Accessor a))
    (c.remove-2.ensures.rows honest)
