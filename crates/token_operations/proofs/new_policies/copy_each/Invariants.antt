use Rattle.std.proofs.Common.{◌≡◌, ◌++◌, drop}
use Rattle.token_operations.proofs.new_policies.copy_each.Given as goal

abbrev pub invariant-loop-text : goal.invariant-loop-text
invariant-loop-text l = l.copies.items ++ drop l.text-index l.texts ≡ l.initial.copies.items ++ l.texts
