use Rattle.std.proofs.Common.{◌≡◌, [], drop}
use Rattle.records.specs.Words.{AllByRecursion}
use Rattle.token_tree.specs.Words.{IsAccessorRow, with_accessors}
use Rattle.token_tree.proofs.by_accessor.names_of.Given as goal

-- to add what is left leads to the same names
abbrev pub invariant-loop-entry : goal.invariant-loop-entry
invariant-loop-entry l =
    record {
      names : with_accessors (drop l.entry-index l.entries) l.names.items ≡ with_accessors l.entries [];
      left : AllByRecursion IsAccessorRow l.entries → AllByRecursion IsAccessorRow (drop l.entry-index l.entries);
      read : AllByRecursion IsAccessorRow (drop l.entry-index l.entries) → AllByRecursion IsAccessorRow l.entries;
    }
