use Rattle.broker_model.specs.Words.{ap, ◌∙◌, on_ok_weaker, table_of, with_row, table_of-insert}
use Rattle.records.specs.declared.kind.Kind.TheVariants as kind
use Rattle.broker_rows.proofs.identifiers.use_up.Goals as goal

pub returns-clause-rows : goal.returns-clause-rows
returns-clause-rows g c honest =
    let rows = (g.T.RecordsTx.seen c.args.tx.now).rows in
    on_ok_weaker c.put.result (λ put.
    ap table_of put ∙ table_of-insert rows kind.Used c.args.identifier.now c.in_ok-write_used.field-0
    ∙ ap (with_row (table_of rows) kind.Used c.args.identifier.now) c.in_ok-write_used.ensures)
    (c.put.ensures.rows honest)
