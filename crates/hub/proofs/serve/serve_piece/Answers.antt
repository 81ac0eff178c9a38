use Rattle.std.proofs.Common.{◌≡◌, ◌∙◌, Err, ap, sym, subst, inl, refl, arith, rules}
use Rattle.broker_model.specs.Words.{err_from_is_err_and, nat_tests, Consumes, Appends-nil}
use Rattle.hub.specs.Words.{Supplies-nil, Read}
use Rattle.hub.proofs.KeepsLemmas.{failed_now}
use Rattle.hub.proofs.KnownLemmas.{Consumes-kept}
use Rattle.hub.proofs.ServedLemmas.{serves_closing, serves_err, serves_ok, serves_so}
use Rattle.hub.proofs.ServingLemmas.{ended_at}
use Rattle.hub.proofs.serve.serve_piece.Goals as goal

-- ---- the read failed

pub returns-in_default-clause-served : goal.returns-in_default-clause-served
returns-in_default-clause-served g c =
    serves_closing g.S.Store.seen c.args.conn _ _ _ _ _ Read c.args.hub.now c.close.new.self refl
    (λ is. failed_now (g.R.Source.has_failed c.args.reader.now) _ c.in_default.ensures.failing) (λ is. cc is)
    (Consumes-kept _ _ c.in_default.ensures.bytes) (Appends-nil _)
    (Supplies-nil g.C.Clock.may_tell c.args.clock.now g.D.WordSource.may_give c.args.words.now)
    (record { store = c.close.ensures.store; connections = c.close.ensures.connections })

-- ---- an event had a fault, or a write

pub returns-in_err-answer-clause-served : goal.returns-in_err-answer-clause-served
returns-in_err-answer-clause-served g c =
    let p = err_from_is_err_and c.from_residual.result c.from_residual.ensures.1 in
    let Reads = Consumes (g.R.Source.left c.args.reader.now) (g.R.Source.left c.pull.new.self) in
    rw (p.1 ∙ ap Err p.2)
    (serves_so _ (serves_err c.in_err-answer.ensures.served (λ failed. absurd failed))
    (λ l is. subst Reads (sym is) c.in-Ok.ensures.bytes.0))

-- ---- the input has ended

pub returns-then-count-eq0-clause-served : goal.returns-then-count-eq0-clause-served
returns-then-count-eq0-clause-served g c =
    let Reads = Consumes (g.R.Source.left c.args.reader.now) (g.R.Source.left c.pull.new.self) in
    serves_so _ (serves_ok c.in_ok-answer.ensures.served) (λ l is. subst Reads (sym is) c.in-Ok.ensures.bytes.0)

pub returns-then-count-eq0-clause-ended : goal.returns-then-count-eq0-clause-ended
returns-then-count-eq0-clause-ended g c = λ last all each.
    let zero : c.in-Ok.count ≡ 0 = grind (arith, nat_tests) in
    let end = c.in-Ok.ensures.bytes.1 zero (search rules) in
    ended_at (g.R.Source.left c.pull.new.self) all c.args.conn end (c.in_ok-answer.ensures.answered all each)

-- ---- it has not

pub returns-else-count-eq0-clause-served : goal.returns-else-count-eq0-clause-served
returns-else-count-eq0-clause-served g c =
    let Reads = Consumes (g.R.Source.left c.args.reader.now) (g.R.Source.left c.pull.new.self) in
    serves_so _ (serves_ok c.in_ok-answer.ensures.served) (λ l is. subst Reads (sym is) c.in-Ok.ensures.bytes.0)

pub returns-else-count-eq0-clause-ended : goal.returns-else-count-eq0-clause-ended
returns-else-count-eq0-clause-ended g c = λ closed all each. inl (sym (c.is_closed.ensures all each) ∙ closed)
