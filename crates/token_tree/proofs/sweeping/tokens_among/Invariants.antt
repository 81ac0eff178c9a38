use Rattle.std.proofs.Common.{◌≡◌, ◌++◌, drop, filter}
use Rattle.records.specs.declared.kind.Kind.TheVariants as kind
use Rattle.token_tree.specs.Words.{Row}
use Rattle.records.specs.Words.{RowKey, is_of_kind}
use Rattle.token_tree.proofs.sweeping.tokens_among.Given as goal

-- what is taken so far and what is to be taken
abbrev pub invariant-loop-entry : goal.invariant-loop-entry
invariant-loop-entry l =
    let takes = λ (e : RowKey × Row). is_of_kind kind.Token e.0 in
    l.list.items ++ filter takes (drop l.entry-index l.entries) ≡ filter takes l.entries
