use Rattle.std.proofs.Common.{◌∷◌, [], refl}
use Rattle.server.proofs.ServingLemmas.{accepted_none, accepted_one}
use Rattle.server.proofs.peers.Peers.accept.Goals as goal

pub returns-then-is_used_up-clause-accepted : goal.returns-then-is_used_up-clause-accepted
returns-then-is_used_up-clause-accepted g c =
    ([], refl, accepted_none g.R.NowSource.left g.W.NowSink.written c.args.self.now)

pub open-requires-clause-room : goal.open-requires-clause-room
open-requires-clause-room g c = c.is_used_up.ensures c.if-is_used_up.false

pub returns-in-Came-clause-accepted : goal.returns-in-Came-clause-accepted
returns-in-Came-clause-accepted g c = (
  (c.in-Came.reader, c.in-Came.writer) ∷ [],
  (_, c.in-Came.ensures, refl),
  accepted_one g.R.NowSource.left g.W.NowSink.written _ c.args.self.now c.open.new.self c.new.result
      c.new.ensures.connection c.open.ensures.next c.open.ensures.here c.open.ensures.others,
)

pub returns-in-Lost-clause-accepted : goal.returns-in-Lost-clause-accepted
returns-in-Lost-clause-accepted g c =
    ([], c.in-Lost.ensures, accepted_none g.R.NowSource.left g.W.NowSink.written c.args.self.now)

pub returns-in-NoneWaits-clause-accepted : goal.returns-in-NoneWaits-clause-accepted
returns-in-NoneWaits-clause-accepted g c =
    ([], c.in-NoneWaits.ensures, accepted_none g.R.NowSource.left g.W.NowSink.written c.args.self.now)

pub returns-in-Interrupted-clause-accepted : goal.returns-in-Interrupted-clause-accepted
returns-in-Interrupted-clause-accepted g c =
    ([], c.in-Interrupted.ensures, accepted_none g.R.NowSource.left g.W.NowSink.written c.args.self.now)

pub returns-in-Scarce-clause-accepted : goal.returns-in-Scarce-clause-accepted
returns-in-Scarce-clause-accepted g c =
    ([], c.in-Scarce.ensures, accepted_none g.R.NowSource.left g.W.NowSink.written c.args.self.now)

pub returns-in-Failed-clause-accepted : goal.returns-in-Failed-clause-accepted
returns-in-Failed-clause-accepted g c =
    ([], c.in-Failed.ensures, accepted_none g.R.NowSource.left g.W.NowSink.written c.args.self.now)
