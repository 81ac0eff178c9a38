use Rattle.broker_model.specs.Words.{None, Err, Result, IfOk-weaker, names_of, Refusal, Wrapped, served}
use Rattle.broker.specs.Stages.{HasServed}
use Rattle.broker.proofs.Finishing.{openly_refused, openly_served}
use Rattle.broker.proofs.order.opening.answer_openly.Goals as goal

pub returns-in_ok-answer-in-Ok-clause-told : goal.returns-in_ok-answer-in-Ok-clause-told
returns-in_ok-answer-in-Ok-clause-told g c opens honest b begins =
    let m : Result Wrapped Refusal = served b None (names_of c.args.context.now.words) c.args.ask.now in
    openly_served (g.T.RecordsTx.seen c.serve_openly.new.tx).rows b c.in-Ok.answered m c.in_ok-answer-in-Ok.field-0
    (c.in-Ok.ensures.told opens honest b begins) c.in_ok-answer-in-Ok.ensures.response

pub returns-in-Err-Refused-clause-told : goal.returns-in-Err-Refused-clause-told
returns-in-Err-Refused-clause-told g c opens honest b begins =
    let rows = (g.T.RecordsTx.seen c.serve_openly.new.tx).rows in
    let m : Result Wrapped Refusal = served b None (names_of c.args.context.now.words) c.args.ask.now in
    let refused : HasServed None rows b (Err c.in-Err-Refused.refusal) m =
    rw c.in-Err-Refused.field-0-is at (c.in-Err-Refused.ensures.told opens honest b begins) in
    IfOk-weaker c.refuse.result _ _ (λ a is. openly_refused rows b c.in-Err-Refused.refusal m a refused is)
    c.refuse.ensures.response
