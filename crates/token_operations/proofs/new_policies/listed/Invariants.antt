use Rattle.std.proofs.Common.{◌≡◌, ◌++◌, map, string_bytes}
use Rattle.token_operations.proofs.new_policies.listed.Given as goal

abbrev pub invariant-loop-text : goal.invariant-loop-text
invariant-loop-text l = l.list.items ++ map string_bytes l.text-iterator ≡ map string_bytes l.set.keys
