use Rattle.std.proofs.Common.{◌∙◌, sym}
use Rattle.hub.specs.Words.{unsent}
use Rattle.server.specs.Numbers.{connection_of}
use Rattle.server.proofs.AcceptedLemmas.{served_none}
use Rattle.server.proofs.TurnLemmas.{pushed}
use Rattle.server.proofs.peer.Peer.send_rest.Goals as goal

pub returns-then-is_farewell : goal.returns-then-is_farewell
returns-then-is_farewell g c = (
  unsent c.args.self.now.link,
  served_none g.R.NowSource.left g.W.NowSink.written (connection_of c.args.self.now),
)

pub returns-then-not-is_sending : goal.returns-then-not-is_sending
returns-then-not-is_sending g c = (
  unsent c.args.self.now.link,
  served_none g.R.NowSource.left g.W.NowSink.written (connection_of c.args.self.now),
)

pub returns : goal.returns
returns g c =
    pushed g.R.NowSource.left g.W.NowSink.written (connection_of c.args.self.now) c.push_now.new.self.sink
    c.push_now.result c.unsent.result.now (sym c.is_farewell.ensures ∙ c.if-is_farewell.false) c.unsent.ensures
    c.push_now.ensures.bytes
