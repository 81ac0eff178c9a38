use Rattle.std.proofs.Common.{[]}
use Rattle.server.specs.Numbers.{connection_at}
use Rattle.server.proofs.AcceptedLemmas.{are_served_on}
use Rattle.server.proofs.ServingLemmas.{accepted_none, below_next}
use Rattle.server.proofs.peers.Peers.send_rests.Goals as goal

pub loop-init : goal.loop-init
loop-init g c = accepted_none g.R.NowSource.left g.W.NowSink.written c.args.self.now

pub loop-preserved : goal.loop-preserved
loop-preserved g c =
    are_served_on g.R.NowSource.left g.W.NowSink.written [] [] c.args.self.now.next c.loop.self.next
    c.send_rest.new.self.next
    (connection_at c.args.self.now.peers) (connection_at c.loop.self.peers) (connection_at c.send_rest.new.self.peers)
    [] [] (below_next c.args.self.now) c.loop.invariant c.send_rest.ensures
