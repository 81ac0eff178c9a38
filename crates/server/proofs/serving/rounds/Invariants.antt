use Rattle.std.proofs.Common.{Ok}
use Rattle.hub.specs.Words.{Supplies}
use Rattle.server.specs.Serving.{ServesAt}
use Rattle.server.proofs.serving.rounds.Given as goal

abbrev pub invariant-loop : goal.invariant-loop
invariant-loop g l =
    ServesAt {A = Unit {0}} g.L.Listener.may_accept g.S.Store.seen g.R.NowSource.left g.W.NowSink.written
    (Supplies g.C.Clock.may_tell l.fn.service.clock l.service.clock
    g.D.WordSource.may_give l.fn.service.words l.service.words)
    (Ok tt) l.fn.listening.accepting.listener l.listening.accepting.listener l.fn.listening.links.peers
    l.listening.links.peers l.fn.service.hub l.service.hub
