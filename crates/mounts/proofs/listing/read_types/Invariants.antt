use Rattle.std.proofs.Common.{◌≡◌, List, map, take, All}
use Rattle.records.specs.Words.{Text, Mount, IsMountInRange}
use Rattle.mounts.specs.Words.{IsMountRow, at_mount, in_places, typed}
use Rattle.mounts.proofs.listing.read_types.Given as goal

-- the types of the mounts so far, whose rows were read
abbrev pub invariant-loop-entry : goal.invariant-loop-entry
invariant-loop-entry l = record {
  told : (mounts : List (Text × Mount)) → All (λ m. IsMountInRange m.1) mounts → l.rows ≡ map at_mount mounts
      → l.list.items ≡ in_places (map typed (take l.entry-index mounts));
  readable : All (λ e. IsMountRow e.1) (take l.entry-index l.rows);
}
