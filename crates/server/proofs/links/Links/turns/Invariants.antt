use Rattle.records.specs.Words.{Ok, []}
use Rattle.hub.specs.Words.{Supplies}
use Rattle.server.specs.Serving.{ServesPeers}
use Rattle.server.proofs.links.Links.turns.Given as goal

abbrev pub invariant-loop : goal.invariant-loop
invariant-loop g l =
    ServesPeers {A = Unit {0}} g.S.Store.seen g.R.NowSource.left g.W.NowSink.written
    (Supplies g.C.Clock.may_tell l.fn.service.clock l.service.clock
    g.D.WordSource.may_give l.fn.service.words l.service.words)
    [] (Ok tt) l.fn.self.peers l.self.peers l.fn.service.hub l.service.hub
