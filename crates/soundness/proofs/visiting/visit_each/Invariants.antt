use Rattle.std.proofs.Common.{◌≡◌, ◌+◌, false}
use Rattle.broker_model.specs.Words.{IsHonest, GoesOn}
use Rattle.soundness.specs.Words.{CanBeWalked, Walked}
use Rattle.soundness.proofs.WalkLemmas.{IsAmong}
use Rattle.soundness.proofs.visiting.visit_each.Given as goal

-- the rows so far were visited
abbrev pub invariant-loop-entry : goal.invariant-loop-entry
invariant-loop-entry g l =
    let seen = g.T.RecordsTx.seen in
    let rows = (seen l.initial.tx).rows in
    record {
      same : IsHonest (seen l.tx) → (seen l.tx).rows ≡ rows;
      number : l.number ≡ l.before + l.entry-index;
      walked : IsHonest (seen l.tx) → CanBeWalked rows l.before l.entries
          → Walked rows (IsAmong l.entry-index l.entries) l.initial.walk l.walk;
      goes_on : GoesOn (seen l.initial.tx) (seen l.tx) false;
    }
