use Rattle.std.proofs.Common.{refl}
use Rattle.server.proofs.ServingLemmas.{serves_same}
use Rattle.server.proofs.links.Links.make_room.Goals as goal

pub returns-in_default : goal.returns-in_default
returns-in_default g c =
    serves_same g.S.Store.seen g.R.NowSource.left g.W.NowSink.written _ tt c.args.self.now.peers c.args.self.now.peers
    c.args.hub.now refl refl
