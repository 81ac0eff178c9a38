use Rattle.server.proofs.ServingLemmas.{accepted_none}
use Rattle.server.proofs.listening.Listening.finish.Goals as goal

pub returns-then-not-has_failed : goal.returns-then-not-has_failed
returns-then-not-has_failed g c =
    accepted_none g.R.NowSource.left g.W.NowSink.written c.args.self.now.links.peers
