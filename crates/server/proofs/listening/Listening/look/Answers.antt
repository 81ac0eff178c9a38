use Rattle.std.proofs.Common.{refl}
use Rattle.server.proofs.ServingLemmas.{serves_same}
use Rattle.server.proofs.listening.Listening.look.Goals as goal

pub returns-else-round-self-clause-peers : goal.returns-else-round-self-clause-peers
returns-else-round-self-clause-peers g c =
    serves_same g.S.Store.seen g.R.NowSource.left g.W.NowSink.written _ (tt {0}) c.args.self.now.links.peers
    c.args.self.now.links.peers c.args.hub.now refl refl
