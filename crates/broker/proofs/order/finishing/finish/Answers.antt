use Rattle.broker_model.specs.Words.{subst}
use Rattle.broker.specs.Stages.{HasServed, may_be_spent}
use Rattle.broker.proofs.Finishing.{finish_served}
use Rattle.broker.proofs.order.finishing.finish.Goals as goal

pub returns-in_ok-answer-in-Ok-clause-told : goal.returns-in_ok-answer-in-Ok-clause-told
returns-in_ok-answer-in-Ok-clause-told g c honest b m h =
    let seen = g.T.RecordsTx.seen in
    let caller = c.args.caller.now in
    let who = may_be_spent caller c.args.is_last_use in
    let old = (seen c.args.tx.now).rows in
    finish_served caller who old (seen c.end_caller.new.tx).rows b
    (λ next st. c.in_ok-end_caller.ensures.told honest next st)
    c.in-Ok.answered m c.in_ok-answer-in-Ok.field-0
    (subst (λ served. HasServed who old b served m) c.in-Ok.is h)
    c.in_ok-answer-in-Ok.ensures.response
