use Rattle.std.proofs.Common.{◌≡◌, ◌≤◌, count_by, map, string_bytes, take}
use Rattle.backup.specs.Names.{is_newer}
use Rattle.backup.proofs.names.newer.Given as goal

abbrev pub invariant-loop-other : goal.invariant-loop-other
invariant-loop-other l =
    (l.count ≡ count_by (is_newer l.stem l.name) (map string_bytes (take l.other-index l.names)))
    × (l.count ≤ l.other-index)
