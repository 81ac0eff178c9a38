use Rattle.std.proofs.Common.{◌≡◌, ◌∙◌, false, length, sym, ap, subst, arith}
use Rattle.broker_model.specs.Words.{nil_from_length, nat_tests, honest_before}
use Rattle.broker_sql.proofs.KindLemmas.{LookedSoFar, looked_further, no_rows, none_in_empty}
use Rattle.broker_sql.proofs.emptiness.is_empty.Goals as goal

pub loop-kind-preserved : goal.loop-kind-preserved
loop-kind-preserved g c =
    looked_further _ (g.T.RecordsTx.seen c.loop-kind.tx) (g.T.RecordsTx.seen c.under.new.self) c.loop-kind.kind-index
    c.loop-kind.invariant c.in_ok-under.ensures.call.same c.in_ok-under.ensures.call.goes_on
    (λ honest. sym (c.in_ok-under.ensures.entries honest)
    ∙ nil_from_length c.in_ok-under.field-0.items (grind (arith, nat_tests, c.if-not-is_empty.ensures)))

pub returns-clause-found : goal.returns-clause-found
returns-clause-found g c = λ honest.
    let all : c.loop-kind.kind-index ≡ 13 = omega (arith, c.loop-kind-test.false, c.loop-kind.auto.kind-index-end) in (
      (λ _. no_rows (g.T.RecordsTx.seen c.args.tx.now) (g.T.RecordsTx.seen c.loop-kind.tx)
          (subst (λ n. LookedSoFar (g.T.RecordsTx.seen c.args.tx.now) (g.T.RecordsTx.seen c.loop-kind.tx) n) all
          c.loop-kind.invariant) honest),
      λ _. cc,
    )

pub returns-then-not-is_empty-clause-found : goal.returns-then-not-is_empty-clause-found
returns-then-not-is_empty-clause-found g c = λ honest.
    let mid = g.T.RecordsTx.seen c.loop-kind.tx in
    let before = honest_before mid (g.T.RecordsTx.seen c.under.new.self) false c.in_ok-under.ensures.call.goes_on
    honest in (
      (λ no. absurd (let e = no in cc)),
      λ is.
          let none = c.in_ok-under.ensures.entries honest
          ∙ none_in_empty mid.rows _ (c.loop-kind.invariant.same before ∙ is) in
          let long : length c.in_ok-under.field-0.items ≡ 0 = ap length none in
          absurd (grind (arith, nat_tests, c.if-not-is_empty.ensures, long)),
    )
