use Rattle.std.proofs.Common.{◌∙◌, Ok, Err, ap, refl, []}
use Rattle.records.specs.Words.{err_from_is_err_and}
use Rattle.hub.specs.Words.{Supplies-append, Supplies-nil}
use Rattle.server.proofs.ServingLemmas.{serves_on, serves_same}
use Rattle.server.proofs.listening.Listening.take_turns.Goals as goal

pub loop-init : goal.loop-init
loop-init g c = record {
  peers = serves_same g.S.Store.seen g.R.NowSource.left g.W.NowSink.written _ (tt {0}) c.args.self.now.links.peers
      c.args.self.now.links.peers c.args.service.now.hub
      (Supplies-nil g.C.Clock.may_tell c.args.service.now.clock g.D.WordSource.may_give c.args.service.now.words) refl;
  listener = refl;
}

pub loop-preserved : goal.loop-preserved
loop-preserved g c =
    let old = c.args.service.now in
    let mid = c.loop.service in
    let new = c.turns.new.service in
    record {
      peers = serves_on g.S.Store.seen g.R.NowSource.left g.W.NowSink.written _ _ _ [] [] (tt {0}) (Ok (tt {0}))
          c.args.self.now.links.peers c.loop.self.links.peers c.turns.new.self.peers old.hub mid.hub new.hub
          (Supplies-append g.C.Clock.may_tell old.clock mid.clock new.clock g.D.WordSource.may_give
          old.words mid.words new.words)
          c.loop.invariant.peers c.in_ok-turns.ensures;
      listener = c.loop.invariant.listener;
    }

pub returns-in_err-turns-clause-peers : goal.returns-in_err-turns-clause-peers
returns-in_err-turns-clause-peers g c =
    let p = err_from_is_err_and c.from_residual.result c.from_residual.ensures.1 in
    let old = c.args.service.now in
    let mid = c.loop.service in
    let new = c.turns.new.service in
    rw (p.1 ∙ ap Err p.2)
    (serves_on g.S.Store.seen g.R.NowSource.left g.W.NowSink.written _ _ _ [] [] (tt {0}) (Err c.in_err-turns.field-0.0)
    c.args.self.now.links.peers c.loop.self.links.peers c.turns.new.self.peers old.hub mid.hub new.hub
    (Supplies-append g.C.Clock.may_tell old.clock mid.clock new.clock g.D.WordSource.may_give
    old.words mid.words new.words)
    c.loop.invariant.peers c.in_err-turns.ensures)
