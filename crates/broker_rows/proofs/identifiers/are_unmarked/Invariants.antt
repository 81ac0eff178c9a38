use Rattle.std.proofs.Common.{◌≡◌, length, false}
use Rattle.broker_model.specs.Words.{table_of, IsHonest, GoesOn}
use Rattle.broker_rows.specs.Words.{are_unmarked}
use Rattle.broker_rows.proofs.identifiers.are_unmarked.Given as goal

abbrev pub decreases-loop-later : goal.decreases-loop-later
decreases-loop-later g l = length l.later

-- those that were looked up are new: they all are if those that are left are
abbrev pub invariant-loop-later : goal.invariant-loop-later
invariant-loop-later g l =
    let seen = g.T.RecordsTx.seen in
    let rows = table_of (seen l.initial.tx).rows in
    record {
      same : IsHonest (seen l.tx) → (seen l.tx).rows ≡ (seen l.initial.tx).rows;
      left : IsHonest (seen l.tx) → are_unmarked rows l.later ≡ are_unmarked rows l.initial.later;
      goes_on : GoesOn (seen l.initial.tx) (seen l.tx) false;
    }
