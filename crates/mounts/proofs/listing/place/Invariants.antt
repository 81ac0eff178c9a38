use Rattle.std.proofs.Common.{◌≡◌, ◌+◌, drop}
use Rattle.records.specs.Words.{text_cmp, rank, is_met}
use Rattle.mounts.proofs.listing.place.Given as goal

-- the mounts so far are below the name
abbrev pub invariant-loop-i : goal.invariant-loop-i
invariant-loop-i l = record {
  rank : rank text_cmp l.name l.list ≡ l.i + rank text_cmp l.name (drop l.i l.list);
  met : is_met text_cmp l.name l.list ≡ is_met text_cmp l.name (drop l.i l.list);
}
