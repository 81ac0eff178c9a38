use Rattle.std.proofs.Common.{◌≡◌, Ok, refl, []}
use Rattle.hub.specs.Words.{Supplies, Supplies-nil}
use Rattle.server.proofs.ServingLemmas.{joins_none, serves_fault, serves_on, serves_same, serves_then}
use Rattle.server.proofs.links.Links.turn.Goals as goal

pub returns-in_default : goal.returns-in_default
returns-in_default g c =
    serves_same g.S.Store.seen g.R.NowSource.left g.W.NowSink.written _ tt c.args.self.now.peers c.args.self.now.peers
    c.args.service.now.hub
    (Supplies-nil g.C.Clock.may_tell c.args.service.now.clock g.D.WordSource.may_give c.args.service.now.words) refl

pub returns-in-Ok-Ready : goal.returns-in-Ok-Ready
returns-in-Ok-Ready g c =
    let served = c.turn-turned.ensures in
    serves_then g.S.Store.seen g.R.NowSource.left g.W.NowSink.written _ [] _ tt c.args.self.now.peers
    c.turn-turned.new.self c.note-why.new.self.peers c.args.service.now.hub c.turn-turned.new.service.hub
    c.note-why.ensures (rw c.in-Ok-Ready.is at served)

pub returns-in-Ok-Waits : goal.returns-in-Ok-Waits
returns-in-Ok-Waits g c =
    let served = c.turn-turned.ensures in
    serves_then g.S.Store.seen g.R.NowSource.left g.W.NowSink.written _ [] _ tt c.args.self.now.peers
    c.turn-turned.new.self c.note-why.new.self.peers c.args.service.now.hub c.turn-turned.new.service.hub
    c.note-why.ensures (rw c.in-Ok-Waits.is at served)

pub returns-in-Ok-Gone : goal.returns-in-Ok-Gone
returns-in-Ok-Gone g c =
    let served = c.turn-turned.ensures in
    let X = Supplies g.C.Clock.may_tell c.args.service.now.clock c.turn-turned.new.service.clock
    g.D.WordSource.may_give c.args.service.now.words c.turn-turned.new.service.words in
    serves_on g.S.Store.seen g.R.NowSource.left g.W.NowSink.written X (λ events. events ≡ []) X [] [] (tt {0})
    (Ok (tt {0})) c.args.self.now.peers
    c.note-why.new.self.peers c.close.new.self.peers c.args.service.now.hub c.turn-turned.new.service.hub
    c.close.new.hub (joins_none X)
    (serves_then g.S.Store.seen g.R.NowSource.left g.W.NowSink.written X [] _ (tt {0}) c.args.self.now.peers
    c.turn-turned.new.self c.note-why.new.self.peers c.args.service.now.hub c.turn-turned.new.service.hub
    c.note-why.ensures (rw c.in-Ok-Gone.is at served))
    c.close.ensures

pub returns-in-Err : goal.returns-in-Err
returns-in-Err g c =
    serves_fault g.S.Store.seen g.R.NowSource.left g.W.NowSink.written _ [] c.turn-turned.result _ c.in-Err.fault
    c.args.self.now.peers
    c.turn-turned.new.self c.note-why.new.self.peers c.args.service.now.hub c.turn-turned.new.service.hub
    c.in-Err.is refl c.note-why.ensures c.turn-turned.ensures
