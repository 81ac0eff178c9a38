use Rattle.std.proofs.Common.{◌≡◌, ◌++◌, if◌then◌else◌, drop}
use Rattle.policies.specs.Words.{with_name}
use Rattle.policies.proofs.listing.with_name.Given as goal

-- what is to come, as it is where the name is in
abbrev pub invariant-loop-other : goal.invariant-loop-other
invariant-loop-other l = l.list.items ++ (if l.is_in then drop l.other-index l.names
    else with_name l.name (drop l.other-index l.names)) ≡ with_name l.name l.names
