use Rattle.std.proofs.Common.{◌≡◌, List, []}
use Rattle.server.specs.Accepted.{AreServed}
use Rattle.server.specs.Arriving.{HandsOut}
use Rattle.server.specs.Numbers.{connection_at}
use Rattle.server.proofs.accepting.Accepting.accept.Given as goal

abbrev pub invariant-loop : goal.invariant-loop
invariant-loop g l = record {
  accepted : (accepted : List (g.row.R.Denot × g.row.W.Denot))
      × HandsOut g.L.Listener.may_accept l.fn.self.listener l.self.listener accepted
      × AreServed g.R.NowSource.left g.W.NowSink.written accepted [] l.fn.links.peers.next
      (connection_at l.fn.links.peers.peers) l.links.peers.next (connection_at l.links.peers.peers);
  first : l.links.peers.first ≡ l.fn.links.peers.first;
}
