use Rattle.std.proofs.Common.{◌≡◌, ◌≤◌, false, drop}
use Rattle.records.specs.Words.{IsHonest, GoesOn, without_listed}
use Rattle.kv2.proofs.pruning.remove_upto.Given as goal

-- to remove what is left leads to the same rows
abbrev pub invariant-loop-entry : goal.invariant-loop-entry
invariant-loop-entry g l =
    let seen = g.T.RecordsTx.seen in
    record {
      rows : IsHonest (seen l.tx)
          → without_listed (seen l.tx).rows (drop l.entry-index l.entry-items)
          ≡ without_listed (seen l.initial.tx).rows l.entry-items;
      mismatches : (seen l.initial.tx).mismatches ≤ (seen l.tx).mismatches;
      goes_on : GoesOn (seen l.fn.tx) (seen l.tx) false;
    }
