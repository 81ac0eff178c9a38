-- Mounts as rows: each has one, at its name (this project's row format).
use Rattle.std.specs.Prelude.{◌≡◌, Option, None, is_some, ℕ, List, [], Result, Ok}
use Rattle.std.specs.FinMap as fin
use Rattle.records.specs.Words.{fold, Text, text_cmp, Map, get, Mount, ◌>>=◌, Refusal, RowKey, IsMountInRange, IsRowOf}
use Rattle.records.specs.Words.{mount_row, Table, with_row, without_row}
use Rattle.records.specs.declared.kind.Kind.TheVariants as kind
use Rattle.records.specs.declared.row.Row.{Row}
use Rattle.mounts.specs.declared.mount_type.MountType.{MountType}
use Rattle.mounts.specs.Mounts as mounts
use Rattle.mounts.specs.Types.{fixed_type}

-- the row at a name is that of the mount, or there is none
abbrev pub IsMountAt : Table → Text → Option Mount → Type 0
IsMountAt rows name o = IsRowOf IsMountInRange mount_row (rows kind.Mount name) o

-- what is at a name is known: a mount that is always there, or the row is that of the mount, or there is none
abbrev pub IsKnownAt : Table → Text → Option Mount → Type 0
IsKnownAt rows name o = fixed_type name ≡ None → IsMountAt rows name o

-- the row at a name can be read: a mount that is always there needs none, and any other row is that of a mount
abbrev pub IsReadableAt : Table → Text → Type 0
IsReadableAt rows name = (mount : Option Mount) × IsKnownAt rows name mount

-- the row at a name is that of no mount, and a mount that is always there has not the name
abbrev pub IsDamagedAt : Table → Text → Type 0
IsDamagedAt rows name = (mount : Option Mount) → IsKnownAt rows name mount → ⊥

-- the rows of mounts are those of the map
abbrev pub AreMounts : Table → Map Mount → Type 0
AreMounts rows ms = (name : Text) → IsMountAt rows name (get ms name)

-- the rows with one more mount
abbrev pub enabled : Table → Text → Text → Option ℕ → Result Table Refusal
enabled rows name type version = do
  m ← mounts.new_mount (is_some (rows kind.Mount name)) name type version
  Ok (with_row rows kind.Mount name (mount_row m))

-- the rows without the mount's
abbrev pub disabled : Table → Text → Result Table Refusal
disabled rows name = do
  free ← mounts.may_go name
  Ok (without_row rows kind.Mount name)

-- ---- the list of mounts

-- the row of a mount at its name, with its key
abbrev pub at_mount : Text × Mount → RowKey × Row
at_mount m = ((kind.Mount, m.0), mount_row m.1)

-- the row is that of a mount
abbrev pub IsMountRow : Row → Type 0
IsMountRow row = (mount : Mount) × IsMountInRange mount × (row ≡ mount_row mount)

-- a type put in its place among types in the order of their printed names
abbrev pub placed : List (Text × MountType) → Text × MountType → List (Text × MountType)
placed types m = fin.put text_cmp (mounts.printed m.0) m.1 types

-- types put in their places, one after another
abbrev pub in_places : List (Text × MountType) → List (Text × MountType)
in_places types = fold placed [] types
