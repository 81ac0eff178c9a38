use Rattle.std.proofs.Common.{◌≡◌, ◌++◌, drop, filter}
use Rattle.records.specs.Words.{RowKey, is_due, Row}
use Rattle.records.proofs.list.due_entries.Given as goal

-- what is taken so far and what is to be taken
abbrev pub invariant-loop-entry : goal.invariant-loop-entry
invariant-loop-entry l =
    let takes = λ (e : RowKey × Row). is_due l.moment e.1.due in
    l.list.items ++ filter takes (drop l.entry-index l.entries) ≡ filter takes l.entries
