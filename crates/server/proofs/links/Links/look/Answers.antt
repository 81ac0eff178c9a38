use Rattle.std.proofs.Common.{refl}
use Rattle.server.proofs.ServingLemmas.{closes_on, serves_same}
use Rattle.server.proofs.links.Links.look.Goals as goal

pub loop-init : goal.loop-init
loop-init g c =
    serves_same g.S.Store.seen g.R.NowSource.left g.W.NowSink.written _ tt c.args.self.now.peers c.args.self.now.peers
    c.args.hub.now refl refl

pub loop-preserved : goal.loop-preserved
loop-preserved g c =
    closes_on g.S.Store.seen g.R.NowSource.left g.W.NowSink.written (tt {0}) (tt {0}) c.args.self.now.peers
    c.loop.self.peers c.close.new.self.peers c.args.hub.now c.loop.hub c.close.new.hub c.loop.invariant c.close.ensures
