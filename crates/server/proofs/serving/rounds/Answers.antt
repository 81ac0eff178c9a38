use Rattle.std.proofs.Common.{◌∙◌, Ok, Err, ap, inl, refl}
use Rattle.records.specs.Words.{err_from_is_err_and}
use Rattle.hub.specs.Words.{Supplies-append, Supplies-nil}
use Rattle.server.proofs.ServingLemmas.{at_on, at_peers, serves_same}
use Rattle.server.proofs.serving.rounds.Goals as goal

pub loop-init : goal.loop-init
loop-init g c =
    let l = c.args.listening.now.accepting.listener in
    let p = c.args.listening.now.links.peers in
    at_peers g.L.Listener.may_accept g.S.Store.seen g.R.NowSource.left g.W.NowSink.written _ (Ok (tt {0})) l l p p
    c.args.service.now.hub c.args.service.now.hub (inl refl)
    (serves_same g.S.Store.seen g.R.NowSource.left g.W.NowSink.written _ (tt {0}) p p c.args.service.now.hub
    (Supplies-nil g.C.Clock.may_tell c.args.service.now.clock g.D.WordSource.may_give c.args.service.now.words) refl)

pub loop-preserved : goal.loop-preserved
loop-preserved g c =
    let old = c.args.service.now in
    let mid = c.loop.service in
    let new = c.round.new.service in
    at_on g.L.Listener.may_accept g.S.Store.seen g.R.NowSource.left g.W.NowSink.written _ _ _ (tt {0}) (Ok (tt {0}))
    c.args.listening.now.accepting.listener c.loop.listening.accepting.listener
    c.round.new.self.accepting.listener c.args.listening.now.links.peers c.loop.listening.links.peers
    c.round.new.self.links.peers old.hub mid.hub new.hub
    (Supplies-append g.C.Clock.may_tell old.clock mid.clock new.clock g.D.WordSource.may_give
    old.words mid.words new.words)
    c.loop.invariant c.in_ok-round.ensures

pub returns-in_err-round : goal.returns-in_err-round
returns-in_err-round g c =
    let p = err_from_is_err_and c.from_residual.result c.from_residual.ensures.1 in
    let old = c.args.service.now in
    let mid = c.loop.service in
    let new = c.round.new.service in
    rw (p.1 ∙ ap Err p.2)
    (at_on g.L.Listener.may_accept g.S.Store.seen g.R.NowSource.left g.W.NowSink.written _ _ _ (tt {0})
    (Err c.in_err-round.field-0.0)
    c.args.listening.now.accepting.listener c.loop.listening.accepting.listener
    c.round.new.self.accepting.listener c.args.listening.now.links.peers c.loop.listening.links.peers
    c.round.new.self.links.peers old.hub mid.hub new.hub
    (Supplies-append g.C.Clock.may_tell old.clock mid.clock new.clock g.D.WordSource.may_give
    old.words mid.words new.words)
    c.loop.invariant c.in_err-round.ensures)
