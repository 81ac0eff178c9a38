use Rattle.std.proofs.Common.{◌≡◌, false}
use Rattle.broker_model.specs.Words.{IsHonest, GoesOn}
use Rattle.soundness.specs.Words.{AreApart, Walked}
use Rattle.soundness.proofs.WalkLemmas.{IsOfFirst}
use Rattle.soundness.proofs.visiting.visit_kinds.Given as goal

-- the rows of the kinds so far were visited
abbrev pub invariant-loop-kind : goal.invariant-loop-kind
invariant-loop-kind g l =
    let seen = g.T.RecordsTx.seen in
    let rows = (seen l.initial.tx).rows in
    record {
      same : IsHonest (seen l.tx) → (seen l.tx).rows ≡ rows;
      walked : IsHonest (seen l.tx) → AreApart (λ k. k) l.kinds
          → Walked rows (IsOfFirst rows l.kind-index l.kinds) l.initial.walk l.walk;
      goes_on : GoesOn (seen l.initial.tx) (seen l.tx) false;
    }
