use Rattle.broker_model.specs.Words.{Ok, Some, refl}
use Rattle.hub.proofs.ListedLemmas.{served_listed}
use Rattle.hub.proofs.FrontLemmas.{refusal_serves, request_serves}
use Rattle.hub.proofs.front.serve_front.Goals as goal

pub returns-in-Refused-clause-serves : goal.returns-in-Refused-clause-serves
returns-in-Refused-clause-serves g c =
    let e = c.serve_refusal.ensures in
    refusal_serves c.serve_refusal.result c.args.rest.now c.in-Refused.status
    (g.S.Store.seen c.args.store.now) c.args.moment c.args.words.now
    c.in-Refused.ensures.front e.reply e.len e.closes

pub returns-in-Refused-clause-listed : goal.returns-in-Refused-clause-listed
returns-in-Refused-clause-listed g c =
    let store = g.S.Store.seen c.args.store.now in
    served_listed store store c.args.moment c.args.words.now c.args.rest.now c.serve_refusal.result
    (returns-in-Refused-clause-serves g c)

pub returns-in_ok-served-in-Whole-clause-serves : goal.returns-in_ok-served-in-Whole-clause-serves
returns-in_ok-served-in-Whole-clause-serves g c =
    let whole = c.in-Whole in
    let e = c.in_ok-served-in-Whole.ensures in
    request_serves (Ok (record c.in_ok-served-in-Whole.served { len = Some whole.len })) c.args.rest.now whole.len
    whole.head whole.body (g.S.Store.seen c.args.store.now) (g.S.Store.seen c.serve_request.new.store) c.args.moment
    c.args.words.now whole.ensures.front refl
    (record { closes = e.closes; reply = e.reply; broker = e.broker; clock = e.clock })

pub returns-in_ok-served-in-Whole-clause-listed : goal.returns-in_ok-served-in-Whole-clause-listed
returns-in_ok-served-in-Whole-clause-listed g c =
    served_listed (g.S.Store.seen c.args.store.now) (g.S.Store.seen c.serve_request.new.store) c.args.moment
    c.args.words.now c.args.rest.now
    (Ok (record c.in_ok-served-in-Whole.served { len = Some c.in-Whole.len }))
    (returns-in_ok-served-in-Whole-clause-serves g c)
