use Rattle.std.proofs.Common.{◌≡◌, ◌++◌, drop, map}
use Rattle.token_tree.specs.Words.{Row}
use Rattle.records.specs.Words.{RowKey}
use Rattle.token_tree.proofs.ending.texts_of.Given as goal

-- what is copied so far and what is to be copied
abbrev pub invariant-loop-entry : goal.invariant-loop-entry
invariant-loop-entry l =
    let text = λ (e : RowKey × Row). e.0.1 in
    l.texts.items ++ map text (drop l.entry-index l.entries) ≡ map text l.entries
