use Rattle.std.proofs.Common.{◌∙◌, ◌++◌, inl, refl, []}
use Rattle.server.specs.Numbers.{connection_at}
use Rattle.server.proofs.AcceptedLemmas.{are_served_on}
use Rattle.server.proofs.ServingLemmas.{accepted_none, below_next, hands_none, hands_on}
use Rattle.server.proofs.accepting.Accepting.accept.Goals as goal

pub loop-init : goal.loop-init
loop-init g c = record {
  accepted = (
    [],
    hands_none g.L.Listener.may_accept c.args.self.now.listener c.args.self.now.listener (inl refl),
    accepted_none g.R.NowSource.left g.W.NowSink.written c.args.links.now.peers,
  );
  first = refl;
}

pub loop-preserved : goal.loop-preserved
loop-preserved g c =
    let a = c.loop.invariant.accepted in
    let b = c.accept_one.ensures.accepted in
    record {
      accepted = (
        a.0 ++ b.0,
        hands_on g.L.Listener.may_accept c.args.self.now.listener c.loop.self.listener
            c.accept_one.new.self.listener a.0 b.0 a.1 b.1,
        are_served_on g.R.NowSource.left g.W.NowSink.written [] [] c.args.links.now.peers.next
            c.loop.links.peers.next c.accept_one.new.links.peers.next (connection_at c.args.links.now.peers.peers)
            (connection_at c.loop.links.peers.peers) (connection_at c.accept_one.new.links.peers.peers) a.0 b.0
            (below_next c.args.links.now.peers) a.2 b.2,
      );
      first = c.accept_one.ensures.first ∙ c.loop.invariant.first;
    }
