use Rattle.std.proofs.Common.{◌≡◌, sym, ap, ◌∙◌}
use Rattle.records.specs.Words.{on_ok_weaker, Waiting, response_tells, accessor_in, RowKey, table}
use Rattle.wrapping.specs.Words.{Row, without_response}
use Rattle.wrapping.proofs.sweeping.remove_entry.Goals as goal

pub returns-clause-rows : goal.returns-clause-rows
returns-clause-rows g c honest =
    let read = c.in_ok-waiting.ensures.exact in
    let accessor : c.waiting.inside.accessor.now ≡ accessor_in c.args.entry.now.1 =
    ap (λ (w : Waiting). w.accessor) c.waiting.view_is ∙ sym (response_tells _ read.0)
    ∙ ap accessor_in (sym read.1) ∙ ap (λ (e : RowKey × Row). accessor_in e.1) c.entry.view_is in
    let key : c.as_str.result.now ≡ c.args.entry.now.0.1 = c.as_str.ensures
    ∙ ap (λ (e : RowKey × Row). e.0.1) c.entry.view_is in
    on_ok_weaker c.remove.result
    (λ rows. rows ∙ (λ i. without_response (table (g.T.RecordsTx.seen c.args.tx.now)) (key i) (accessor i)))
    (c.remove.ensures.rows honest)
