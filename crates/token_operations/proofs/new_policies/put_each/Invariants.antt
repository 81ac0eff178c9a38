use Rattle.std.proofs.Common.{◌≡◌, drop, map, string_bytes}
use Rattle.token_operations.specs.TokenSets as sets
use Rattle.token_operations.proofs.new_policies.put_each.Given as goal

-- to put what is left leads to the same set
abbrev pub invariant-loop-text : goal.invariant-loop-text
invariant-loop-text l =
    sets.put_each (map string_bytes l.set.keys) (drop l.text-index l.texts)
    ≡ sets.put_each (map string_bytes l.initial.set.keys) l.texts
