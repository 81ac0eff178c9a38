use Rattle.std.proofs.Common.{◌≡◌, drop, map}
use Rattle.records.specs.Words.{child, below, push_each}
use Rattle.records.proofs.children.push_children.Given as goal

-- to add the children of the keys that are left leads to the same names
abbrev pub invariant-loop-entry : goal.invariant-loop-entry
invariant-loop-entry l =
    push_each l.names.items (map child (below l.prefix (map (λ e. e.0.1) (drop l.entry-index l.listed))))
    ≡ push_each l.initial.names.items (map child (below l.prefix (map (λ e. e.0.1) l.listed)))
