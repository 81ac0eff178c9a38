use Rattle.std.proofs.Common.{refl}
use Rattle.server.proofs.ServingLemmas.{serves_same}
use Rattle.server.proofs.listening.Listening.make_room.Goals as goal

pub returns-else-wants_room-clause-peers : goal.returns-else-wants_room-clause-peers
returns-else-wants_room-clause-peers g c =
    serves_same g.S.Store.seen g.R.NowSource.left g.W.NowSink.written _ (tt {0}) c.args.self.now.links.peers
    c.args.self.now.links.peers c.args.hub.now refl refl
