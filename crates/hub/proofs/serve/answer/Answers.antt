use Rattle.broker_model.specs.Words.{◌∙◌, Err, Ok, ap, refl, err_from_is_err_and, Appends-trans}
use Rattle.hub.specs.Words.{hub_waiting, Supplies-append}
use Rattle.hub.proofs.ServedLemmas.{serves_err, serves_ok, serves_on}
use Rattle.hub.proofs.ServingLemmas.{joins_nothing, measure_falls}
use Rattle.hub.proofs.serve.answer.Goals as goal

-- ---- the first event had a fault

pub returns-in_err-more-clause-served : goal.returns-in_err-more-clause-served
returns-in_err-more-clause-served g c =
    let p = err_from_is_err_and c.from_residual.result c.from_residual.ensures.1 in
    rw (p.1 ∙ ap Err p.2) (serves_err c.in_err-more.ensures.served (λ failed. failed))

-- ---- a later one had

pub returns-in_err-more-2-clause-served : goal.returns-in_err-more-2-clause-served
returns-in_err-more-2-clause-served g c =
    let p = err_from_is_err_and c.from_residual-in_err-more-2.result c.from_residual-in_err-more-2.ensures.1 in
    rw (p.1 ∙ ap Err p.2)
    (serves_err
    (serves_on c.loop-more.invariant.served c.in_err-more-2.ensures.served (joins_nothing c.args.piece.now _ refl)
    (Appends-trans (g.W.Sink.written c.args.writer.now) (g.W.Sink.written c.loop-more.writer)
    (g.W.Sink.written c.answer_one-in-loop-more.new.writer))
    (Supplies-append g.C.Clock.may_tell c.args.clock.now c.loop-more.clock c.answer_one-in-loop-more.new.clock
    g.D.WordSource.may_give
    c.args.words.now c.loop-more.words c.answer_one-in-loop-more.new.words))
    (λ failed. failed))

-- ---- the loop

pub loop-more-smaller : goal.loop-more-smaller
loop-more-smaller g c =
    measure_falls c.loop-more.more c.in_ok-more-2.more (hub_waiting c.answer_one-in-loop-more.new.hub c.args.conn)
    (hub_waiting c.loop-more.hub c.args.conn) c.loop-more-test.true
    (λ is. c.answer_one-in-loop-more.ensures.falls refl (c.in_ok-more-2.was ∙ ap Ok is))

pub loop-more-preserved : goal.loop-more-preserved
loop-more-preserved g c = record {
  served = serves_on c.loop-more.invariant.served c.in_ok-more-2.ensures.served (joins_nothing c.args.piece.now _ refl)
      (Appends-trans (g.W.Sink.written c.args.writer.now) (g.W.Sink.written c.loop-more.writer)
      (g.W.Sink.written c.answer_one-in-loop-more.new.writer))
      (Supplies-append g.C.Clock.may_tell c.args.clock.now c.loop-more.clock c.answer_one-in-loop-more.new.clock
      g.D.WordSource.may_give
      c.args.words.now c.loop-more.words c.answer_one-in-loop-more.new.words);
  answered = c.in_ok-more-2.ensures.answered;
}

-- ---- the end

pub returns-clause-served : goal.returns-clause-served
returns-clause-served g c = serves_ok c.loop-more.invariant.served

pub returns-clause-answered : goal.returns-clause-answered
returns-clause-answered g c = c.loop-more.invariant.answered c.loop-more-test.false
