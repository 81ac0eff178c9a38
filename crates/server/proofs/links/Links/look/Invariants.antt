use Rattle.std.proofs.Common.{◌≡◌, Ok, []}
use Rattle.server.specs.Serving.{ServesPeers}
use Rattle.server.proofs.links.Links.look.Given as goal

abbrev pub invariant-loop : goal.invariant-loop
invariant-loop g l =
    ServesPeers {A = Unit {0}} g.S.Store.seen g.R.NowSource.left g.W.NowSink.written (λ events. events ≡ []) [] (Ok tt)
    l.fn.self.peers l.self.peers l.fn.hub l.hub
