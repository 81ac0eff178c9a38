use Rattle.std.proofs.Common.{◌≡◌}
use Rattle.server.specs.Serving.{Stand}
use Rattle.server.proofs.listening.mark_all.Given as goal

abbrev pub invariant-loop-event : goal.invariant-loop-event
invariant-loop-event g l = record {
  peers : Stand l.fn.links.peers l.links.peers;
  listener : l.accepting.listener ≡ l.fn.accepting.listener;
}
