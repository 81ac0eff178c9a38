use Rattle.server.proofs.ServingLemmas.{stand_then}
use Rattle.server.proofs.listening.Listening.await_events.Goals as goal

pub returns-clause-peers : goal.returns-clause-peers
returns-clause-peers g c =
    stand_then c.args.self.now.links.peers c.count_time.new.self.links.peers c.mark_all.new.links.peers
    c.count_time.ensures.peers c.mark_all.ensures.peers
