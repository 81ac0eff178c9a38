use Rattle.broker_model.specs.Words.{◌∙◌, Err, ap, sym, inl, inr, refl, arith, rules, err_from_is_err_and, Appends-nil}
use Rattle.broker_model.specs.Words.{Consumes-nil}
use Rattle.hub.specs.Words.{Supplies-nil, Read}
use Rattle.hub.proofs.ServedLemmas.{serves_closing, serves_err, serves_next, serves_none, serves_ok}
use Rattle.hub.proofs.serve.serve_connection.Goals as goal

-- ---- the connection is closed already

pub returns-then-is_closed-clause-served : goal.returns-then-is_closed-clause-served
returns-then-is_closed-clause-served g c =
    serves_none g.S.Store.seen c.args.conn _ _ _ _ _ _ c.args.hub.now (Consumes-nil _) (Appends-nil _)
    (Supplies-nil g.C.Clock.may_tell c.args.clock.now g.D.WordSource.may_give c.args.words.now)

pub returns-then-is_closed-clause-ended : goal.returns-then-is_closed-clause-ended
returns-then-is_closed-clause-ended g c = λ all each. inl (sym (c.is_closed.ensures all each) ∙ c.if-is_closed.true)

-- ---- a fault

pub returns-in_err-serve_piece-clause-served : goal.returns-in_err-serve_piece-clause-served
returns-in_err-serve_piece-clause-served g c =
    let p = err_from_is_err_and c.from_residual.result c.from_residual.ensures.1 in
    rw (p.1 ∙ ap Err p.2)
    (serves_err
    (serves_next (g.R.Source.left c.args.reader.now) (g.R.Source.left c.loop.reader)
    (g.R.Source.left c.serve_piece.new.reader)
    (g.W.Sink.written c.args.writer.now) (g.W.Sink.written c.loop.writer) (g.W.Sink.written c.serve_piece.new.writer)
    c.loop.invariant.served c.in_err-serve_piece.ensures.served) inl)

-- ---- the end

pub returns-then-branch-clause-served : goal.returns-then-branch-clause-served
returns-then-branch-clause-served g c =
    serves_ok
    (serves_next (g.R.Source.left c.args.reader.now) (g.R.Source.left c.loop.reader)
    (g.R.Source.left c.serve_piece.new.reader)
    (g.W.Sink.written c.args.writer.now) (g.W.Sink.written c.loop.writer) (g.W.Sink.written c.serve_piece.new.writer)
    c.loop.invariant.served c.in_ok-serve_piece.ensures.served)

pub returns-then-branch-clause-ended : goal.returns-then-branch-clause-ended
returns-then-branch-clause-ended g c = c.in_ok-serve_piece.ensures.ended c.if-branch.true

-- ---- the loop

pub loop-init : goal.loop-init
loop-init g c = record {
  served = serves_none g.S.Store.seen c.args.conn _ _ _ _ _ _ c.args.hub.now (Consumes-nil _) (Appends-nil _)
      (Supplies-nil g.C.Clock.may_tell c.args.clock.now g.D.WordSource.may_give c.args.words.now);
  counted = search rules;
}

pub loop-preserved : goal.loop-preserved
loop-preserved g c = record {
  served = serves_ok
      (serves_next (g.R.Source.left c.args.reader.now) (g.R.Source.left c.loop.reader)
      (g.R.Source.left c.serve_piece.new.reader)
      (g.W.Sink.written c.args.writer.now) (g.W.Sink.written c.loop.writer) (g.W.Sink.written c.serve_piece.new.writer)
      c.loop.invariant.served c.in_ok-serve_piece.ensures.served);
  counted = omega (arith, c.in_ok-serve_piece.ensures.counted, c.loop.invariant.counted);
}

-- ---- too many reads

pub returns-clause-served : goal.returns-clause-served
returns-clause-served g c =
    let left = g.R.Source.left c.loop.reader in
    let now = g.W.Sink.written c.loop.writer in
    serves_next (g.R.Source.left c.args.reader.now) left left
    (g.W.Sink.written c.args.writer.now) now now c.loop.invariant.served
    (serves_closing g.S.Store.seen c.args.conn _ _ _ _ _ Read c.loop.hub c.close.new.self refl
    (λ is. inr (search rules)) (λ is. cc is) (Consumes-nil left) (Appends-nil now)
    (Supplies-nil g.C.Clock.may_tell c.loop.clock g.D.WordSource.may_give c.loop.words)
    (record { store = c.close.ensures.store; connections = c.close.ensures.connections }))
