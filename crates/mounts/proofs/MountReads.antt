-- Rows that are those of no mount.
use Rattle.std.proofs.Common.{◌≡◌, Option, Some, None, refl, sym, ◌∙◌}
use Rattle.records.specs.Words.{none-some, same_Some, Mount, Text, IsMountInRange, mount_row, Table}
use Rattle.records.specs.declared.kind.Kind.TheVariants as kind
use Rattle.mounts.specs.Words.{Row, IsMountAt}

-- nothing is known at a name whose row is that of no mount
pub not_read : (rows : Table) (name : Text) (row : Row) → rows kind.Mount name ≡ Some row
    → ((m : Mount) → IsMountInRange m → row ≡ mount_row m → ⊥) → (o : Option Mount) → IsMountAt rows name o → ⊥
not_read rows name row is none None at = none-some row (sym at.row ∙ is)
not_read rows name row is none (Some m) at = none m (at.in_range m refl) (same_Some row (mount_row m) (sym is ∙ at.row))
