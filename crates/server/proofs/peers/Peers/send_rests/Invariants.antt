use Rattle.std.proofs.Common.{[]}
use Rattle.server.specs.Accepted.{AreServed}
use Rattle.server.specs.Numbers.{connection_at}
use Rattle.server.proofs.peers.Peers.send_rests.Given as goal

abbrev pub invariant-loop : goal.invariant-loop
invariant-loop g l =
    AreServed g.R.NowSource.left g.W.NowSink.written [] [] l.fn.self.next (connection_at l.fn.self.peers) l.self.next
    (connection_at l.self.peers)
