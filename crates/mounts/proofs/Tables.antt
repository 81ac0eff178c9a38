-- The tables are in order.
use Rattle.std.proofs.Common.{◌≡◌, true, refl}
use Rattle.matchit.proofs.OnLiterals.{matchit_on_literals}
use Rattle.records.specs.Words.{same}
use Rattle.mounts.specs.Words.{MountType, is_in_order, fits, fits_behind, route_rows}
use Rattle.mounts.specs.declared.mount_type.MountType.TheVariants as mount

pub in_order : (type : MountType) → is_in_order (route_rows type) ≡ true
unfolding matchit_on_literals same fits fits_behind
in_order mount.Token = refl
in_order mount.System = refl
in_order mount.Cubbyhole = refl
in_order mount.Kv = refl
in_order mount.Issued = refl
