use Rattle.std.proofs.Common.{◌∙◌, refl}
use Rattle.server.proofs.ServingLemmas.{stand_on, stand_same}
use Rattle.server.proofs.listening.mark_all.Goals as goal

pub loop-event-init : goal.loop-event-init
loop-event-init g c = record { peers = stand_same c.args.links.now.peers; listener = refl }

pub loop-event-preserved : goal.loop-event-preserved
loop-event-preserved g c = record {
  peers = stand_on c.args.links.now.peers c.loop-event.links.peers c.mark_one-is_input.new.links.peers
      c.loop-event.invariant.peers c.mark_one-is_input.ensures.peers;
  listener = c.mark_one-is_input.ensures.listener ∙ c.loop-event.invariant.listener;
}
