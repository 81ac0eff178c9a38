use Rattle.std.proofs.Common.{◌∙◌, Ok, Err, ap, refl, []}
use Rattle.records.specs.Words.{err_from_is_err_and}
use Rattle.hub.specs.Words.{Supplies-append, Supplies-nil}
use Rattle.server.proofs.ServingLemmas.{serves_on, serves_same}
use Rattle.server.proofs.links.Links.turns.Goals as goal

pub loop-init : goal.loop-init
loop-init g c =
    serves_same g.S.Store.seen g.R.NowSource.left g.W.NowSink.written _ tt c.args.self.now.peers c.args.self.now.peers
    c.args.service.now.hub
    (Supplies-nil g.C.Clock.may_tell c.args.service.now.clock g.D.WordSource.may_give c.args.service.now.words) refl

pub loop-preserved : goal.loop-preserved
loop-preserved g c =
    let old = c.args.service.now in
    let mid = c.loop.service in
    let new = c.turn.new.service in
    serves_on g.S.Store.seen g.R.NowSource.left g.W.NowSink.written _ _ _ [] [] tt (Ok tt) c.args.self.now.peers
    c.loop.self.peers c.turn.new.self.peers old.hub mid.hub new.hub
    (Supplies-append g.C.Clock.may_tell old.clock mid.clock new.clock g.D.WordSource.may_give
    old.words mid.words new.words)
    c.loop.invariant c.in_ok-turn.ensures

pub returns-in_err-turn : goal.returns-in_err-turn
returns-in_err-turn g c =
    let p = err_from_is_err_and c.from_residual.result c.from_residual.ensures.1 in
    let old = c.args.service.now in
    let mid = c.loop.service in
    let new = c.turn.new.service in
    rw (p.1 ∙ ap Err p.2)
    (serves_on g.S.Store.seen g.R.NowSource.left g.W.NowSink.written _ _ _ [] [] tt (Err c.in_err-turn.field-0.0)
    c.args.self.now.peers
    c.loop.self.peers c.turn.new.self.peers old.hub mid.hub new.hub
    (Supplies-append g.C.Clock.may_tell old.clock mid.clock new.clock g.D.WordSource.may_give
    old.words mid.words new.words)
    c.loop.invariant c.in_err-turn.ensures)
