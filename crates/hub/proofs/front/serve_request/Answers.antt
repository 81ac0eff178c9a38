use Rattle.http_layer.specs.Words.{asked}
use Rattle.broker_model.specs.Words.{response_of}
use Rattle.hub.proofs.FrontLemmas.{asked_served}
use Rattle.hub.proofs.front.serve_request.Goals as goal

pub returns-in_ok-answer-in-Ok-clause-broker : goal.returns-in_ok-answer-in-Ok-clause-broker
returns-in_ok-answer-in-Ok-clause-broker g c = λ honest b held.
    let p = c.args.head.now in
    let gives = c.in_ok-answer-in-Ok.ensures.told honest b held in
    asked_served b c.args.moment c.args.words.now p (asked p c.args.body) c.in-Ok.ask
    (response_of c.in_ok-answer-in-Ok.answer) c.closes.result
    c.reply.result.bytes.items (g.S.Store.seen c.one.new.self).rows c.in-Ok.ensures.ask c.closes.ensures gives.response
    c.reply.ensures.reply gives.represents
