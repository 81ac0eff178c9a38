use Rattle.std.proofs.Common.{◌≡◌, false, drop}
use Rattle.records.specs.Words.{AllByRecursion, IsHonest, GoesOn}
use Rattle.token_tree.specs.Words.{without_each, IsTokenRow}
use Rattle.token_tree.proofs.ending.remove_tokens.Given as goal

-- to take out what is left leads to the same rows
abbrev pub invariant-loop-entry : goal.invariant-loop-entry
invariant-loop-entry g l =
    let seen = g.T.RecordsTx.seen in
    record {
      rows : IsHonest (seen l.tx) → without_each (drop l.entry-index l.entries) (seen l.tx).rows
          ≡ without_each l.entries (seen l.initial.tx).rows;
      left : AllByRecursion IsTokenRow l.entries → AllByRecursion IsTokenRow (drop l.entry-index l.entries);
      read : AllByRecursion IsTokenRow (drop l.entry-index l.entries) → AllByRecursion IsTokenRow l.entries;
      goes_on : GoesOn (seen l.initial.tx) (seen l.tx) false;
    }
