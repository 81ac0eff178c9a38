use Rattle.std.proofs.Common.{◌∙◌, sym, ap}
use Rattle.hub.specs.Words.{Supplies-nil}
use Rattle.server.specs.Patience.{is_farewell}
use Rattle.server.proofs.TurnLemmas.{cleared, done, drained, turned_err, turned_ok, unskipped_of, still_going}
use Rattle.server.proofs.peer.Peer.go.Goals as goal

pub returns-then-is_farewell : goal.returns-then-is_farewell
returns-then-is_farewell g c =
    let others = c.drain.ensures.others in
    cleared g.S.Store.seen g.R.NowSource.left g.W.NowSink.written _ _ c.args.self.now c.clear.new.self c.drain.new.self
    c.args.service.now.hub c.args.service.now.hub c.clear.ensures.ends c.clear.ensures.wait
    (drained g.S.Store.seen g.R.NowSource.left g.W.NowSink.written _ c.drain.result c.clear.new.self c.drain.new.self
    c.args.service.now.hub
    (Supplies-nil g.C.Clock.may_tell c.args.service.now.clock g.D.WordSource.may_give c.args.service.now.words)
    (sym c.is_farewell.ensures ∙ c.if-is_farewell.true) others.2 c.drain.ensures.passed others.0 others.1)

pub returns-then-is_done : goal.returns-then-is_done
returns-then-is_done g c =
    cleared g.S.Store.seen g.R.NowSource.left g.W.NowSink.written _ _ c.args.self.now c.clear.new.self
    c.begin_farewell.new.self
    c.args.service.now.hub c.args.service.now.hub c.clear.ensures.ends c.clear.ensures.wait
    (done g.S.Store.seen g.R.NowSource.left g.W.NowSink.written _ c.begin_farewell.result c.clear.new.self
    c.begin_farewell.new.self c.args.service.now.hub
    (Supplies-nil g.C.Clock.may_tell c.args.service.now.clock g.D.WordSource.may_give c.args.service.now.words)
    (sym c.is_farewell.ensures ∙ c.if-is_farewell.false) (c.is_done.ensures c.if-is_done.true)
    c.begin_farewell.ensures.ends)

pub settle-requires : goal.settle-requires
settle-requires g c =
    ap is_farewell c.take.ensures.wait ∙ sym c.is_farewell.ensures ∙ c.if-is_farewell.false

pub returns-in-Ok : goal.returns-in-Ok
returns-in-Ok g c =
    let ends = c.settle.ensures.ends in
    cleared g.S.Store.seen g.R.NowSource.left g.W.NowSink.written _ _ c.args.self.now c.clear.new.self c.settle.new.self
    c.args.service.now.hub c.take.new.service.hub c.clear.ensures.ends c.clear.ensures.wait
    (turned_ok g.S.Store.seen g.R.NowSource.left g.W.NowSink.written _ _ _ c.settle.result c.in-Ok.turn
    c.clear.new.self c.settle.new.self c.take.new.self.link c.take.new.self.reader.source
    c.take.new.self.writer.sink c.args.service.now.hub c.take.new.service.hub
    ends.0 ends.1 ends.2 (sym c.is_farewell.ensures ∙ c.if-is_farewell.false) c.settle.ensures.ended
    c.in-Ok.ensures.took)

pub returns-in-Err : goal.returns-in-Err
returns-in-Err g c =
    let ends = c.stop.ensures.ends in
    let going = sym c.is_farewell.ensures ∙ c.if-is_farewell.false in
    cleared g.S.Store.seen g.R.NowSource.left g.W.NowSink.written _ _ c.args.self.now c.clear.new.self c.stop.new.self
    c.args.service.now.hub c.take.new.service.hub c.clear.ensures.ends c.clear.ensures.wait
    (turned_err g.S.Store.seen g.R.NowSource.left g.W.NowSink.written _ _ _ c.stop.result c.in-Err.fault
    c.clear.new.self c.stop.new.self c.take.new.self.link c.take.new.self.reader.source
    c.take.new.self.writer.sink c.args.service.now.hub c.take.new.service.hub
    ends.0 ends.1 ends.2 going
    (still_going c.stop.new.self (ap is_farewell (c.stop.ensures.wait ∙ c.take.ensures.wait) ∙ going))
    (unskipped_of c.in-Err.fault c.stop.result c.stop.ensures.unskipped) c.in-Err.ensures.took)
