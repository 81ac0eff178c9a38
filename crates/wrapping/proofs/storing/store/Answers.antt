use Rattle.std.proofs.Common.{◌≡◌, rules, sym, ap, ◌∙◌, subst}
use Rattle.records.specs.Words.{on_ok_weaker, Waiting, honest_before, of_waiting, Tells, KeepsOthers, waiting_row}
use Rattle.records.specs.Words.{Table, table_of, with_row, table_of-insert}
use Rattle.records.specs.declared.kind.Kind.TheVariants as kind
use Rattle.wrapping.specs.Words.{with_waiting}
use Rattle.wrapping.proofs.Responses.{tells_stored, stored_keeps}
use Rattle.wrapping.proofs.storing.store.Goals as goal

pub returns-clause-rows : goal.returns-clause-rows
returns-clause-rows g c honest =
    let seen = g.T.RecordsTx.seen in
    let mid = honest_before (seen c.put.new.self) (seen c.put-2.new.self) _ c.put-2.ensures.call.goes_on honest in
    let rows = (seen c.args.tx.now).rows in
    let t = c.args.token.now in
    let first : table_of (seen c.put.new.self).rows
    ≡ with_row (table_of rows) kind.Waiting t (waiting_row c.args.response.now) =
    ap table_of (c.in_ok-put.ensures.rows mid) ∙ table_of-insert rows kind.Waiting t c.in_ok-row.row
    ∙ ap (with_row (table_of rows) kind.Waiting t) c.in_ok-row.ensures in
    let accessor = ap (λ (w : Waiting). w.accessor) c.response.view_is in
    on_ok_weaker c.put-2.result (λ put.
    ap table_of put ∙ table_of-insert (seen c.put.new.self).rows kind.Accessor _ c.in_ok-accessor_row.accessor_row
    ∙ (λ i. with_row (first i) kind.Accessor (accessor i) (c.in_ok-accessor_row.ensures i)))
    (c.put-2.ensures.rows honest)

pub returns-clause-told : goal.returns-clause-told
returns-clause-told g c honest b r all_used new_token new_accessor =
    let rows = (g.T.RecordsTx.seen c.args.tx.now).rows in
    let t = c.args.token.now in
    let w = c.args.response.now in
    on_ok_weaker c.put-2.result (λ rows_now. subst (λ (table : Table). Tells of_waiting table (with_waiting b t w))
    (sym rows_now)
    (tells_stored b r.one_place all_used t w new_token new_accessor (table_of rows) r.tells))
    (returns-clause-rows g c honest)

pub returns-clause-call : goal.returns-clause-call
returns-clause-call g c =
    let old = table_of (g.T.RecordsTx.seen c.args.tx.now).rows in
    record {
      others = λ honest.
          on_ok_weaker c.put-2.result (λ rows_now. subst (λ (table : Table). KeepsOthers of_waiting old table)
          (sym rows_now)
          (stored_keeps old c.args.token.now c.args.response.now)) (returns-clause-rows g c honest);
      faults = c.put-2.ensures.call.faults;
      goes_on = search rules;
    }
