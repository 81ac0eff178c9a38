use Rattle.broker_model.specs.Words.{ap, ◌∙◌, on_ok_weaker, Waiting, honest_before, used_row, with_row}
use Rattle.records.specs.declared.kind.Kind.TheVariants as kind
use Rattle.broker_rows.specs.Words.{represents_waiting}
use Rattle.broker.proofs.KeptReplies.{kept_rows}
use Rattle.broker.proofs.order.wrap.put.Goals as goal

pub returns-clause-told : goal.returns-clause-told
returns-clause-told g c honest who b st new_token new_accessor =
    let seen = g.T.RecordsTx.seen in
    let old = (seen c.args.tx.now).rows in
    let mid = (seen c.store.new.tx).rows in
    let t = c.args.token.now in
    let w = c.args.response.now in
    let once = honest_before (seen c.use_up.new.tx) (seen c.use_up-2.new.tx) _ c.use_up-2.ensures.call.goes_on honest in
    let stored = honest_before (seen c.store.new.tx) (seen c.use_up.new.tx) _
    c.in_ok-use_up.ensures.call.goes_on once in
    let accessor = ap (λ (w : Waiting). w.accessor) c.response.view_is in
    let origin = ap (λ (w : Waiting). w.origin) c.response.view_is in
    on_ok_weaker c.use_up-2.result (λ marks.
    kept_rows b t w old mid (seen c.use_up-2.new.tx).rows st
    (c.in_ok-store.ensures.told stored b (represents_waiting b old st) st.sound.identifiers.all_used new_token
    new_accessor)
    (c.in_ok-store.ensures.call.others stored) (c.in_ok-store.ensures.rows stored)
    (marks
    ∙ (λ i. with_row (c.in_ok-use_up.ensures.rows once i) kind.Used (origin i) used_row)
    ∙ (λ i. with_row (with_row (c.in_ok-store.ensures.rows stored i) kind.Used (accessor i) used_row)
    kind.Used w.origin used_row)))
    (c.use_up-2.ensures.rows honest)
