use Rattle.broker_model.specs.Words.{Ok, sym, ◌∙◌, ap, IfOk-weaker, of_cubbyholes, Route, Facts, Stores, stored}
use Rattle.broker_model.specs.Words.{stored_at, has_stored}
use Rattle.broker_model.specs.Capabilities as capabilities
use Rattle.broker_rows.specs.Words.{caller_len, tells_part}
use Rattle.broker.proofs.order.capability.is_there.Goals as goal

pub returns-in-Object-clause-told : goal.returns-in-Object-clause-told
returns-in-Object-clause-told g c honest b st here =
    let rows = (g.T.RecordsTx.seen c.args.tx.now).rows in
    let caller = c.args.caller.now in
    let inside = c.route.inside in
    let is = ap (λ (r : Route). capabilities.stands_there (has_stored b caller) (stored (Ok r))) (sym c.route.view_is)
    ∙ ap (λ (s : Stores). capabilities.stands_there (has_stored b caller)
    (stored_at s inside.mount.now inside.parameter.now))
    (ap (λ (f : Facts). f.stores) (sym c.facts.ensures) ∙ c.in-Object.is) in
    IfOk-weaker c.is_there.result _ _ (λ v told. told ∙ sym is)
    (c.is_there.ensures.told honest b (tells_part of_cubbyholes b rows st) (caller_len b rows caller st here))
