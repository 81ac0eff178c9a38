use Rattle.std.proofs.Common.{IsTrue, subst}
use Rattle.records.specs.Words.{Consumes, Appends}
use Rattle.hub.specs.Words.{Supplies, TurnsLink}
use Rattle.server.proofs.peer.Peer.take.Goals as goal

pub returns-clause-took : goal.returns-clause-took
returns-clause-took g c =
    let t = c.take_turn-taken in
    subst (λ (w : g.row.W.Denot). TurnsLink g.S.Store.seen c.args.self.now.link t.new.link
    (Consumes (g.R.NowSource.left c.args.self.now.reader.source) (g.R.NowSource.left t.new.reader.source))
    (Appends (g.W.NowSink.written w) (g.W.NowSink.written t.new.writer.sink))
    (Supplies g.C.Clock.may_tell c.args.service.now.clock t.new.clock g.D.WordSource.may_give c.args.service.now.words
    t.new.words)
    (IsTrue (g.R.NowSource.has_failed t.new.reader.source)) (IsTrue (g.W.NowSink.has_failed t.new.writer.sink)) t.result
    c.args.service.now.hub t.new.hub) c.begin-2.ensures
    (subst (λ (r : g.row.R.Denot). TurnsLink g.S.Store.seen c.args.self.now.link t.new.link
    (Consumes (g.R.NowSource.left r) (g.R.NowSource.left t.new.reader.source))
    (Appends (g.W.NowSink.written c.begin-2.new.self.sink) (g.W.NowSink.written t.new.writer.sink))
    (Supplies g.C.Clock.may_tell c.args.service.now.clock t.new.clock g.D.WordSource.may_give c.args.service.now.words
    t.new.words)
    (IsTrue (g.R.NowSource.has_failed t.new.reader.source)) (IsTrue (g.W.NowSink.has_failed t.new.writer.sink)) t.result
    c.args.service.now.hub t.new.hub) c.begin.ensures t.ensures.took)
