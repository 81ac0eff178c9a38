use Rattle.std.proofs.Common.{◌≡◌, false, drop}
use Rattle.records.specs.Words.{table, IsHonest, GoesOn}
use Rattle.wrapping.specs.Words.{without_each, AreReadable}
use Rattle.wrapping.proofs.sweeping.remove_each.Given as goal

-- to take out what is left leads to the same rows
abbrev pub invariant-loop-entry : goal.invariant-loop-entry
invariant-loop-entry g l =
    let seen = g.T.RecordsTx.seen in
    record {
      rows : IsHonest (seen l.tx) → without_each (drop l.entry-index l.entries) (table (seen l.tx))
          ≡ without_each l.entries (table (seen l.initial.tx));
      left : AreReadable l.entries → AreReadable (drop l.entry-index l.entries);
      read : AreReadable (drop l.entry-index l.entries) → AreReadable l.entries;
      goes_on : GoesOn (seen l.initial.tx) (seen l.tx) false;
    }
