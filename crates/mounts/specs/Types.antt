-- Types of mounts (Vault's documentation, "Secrets engines"; the engine that issues credentials is this project's).
use Rattle.std.specs.Prelude.{if◌then◌else◌, Option, Some, None, option_map, codes}
use Rattle.records.specs.Words.{Text, same, Mount, Engine, kv, issued, or_else}
use Rattle.mounts.specs.declared.mount_type.MountType.{MountType}
use Rattle.mounts.specs.declared.mount_type.MountType.TheVariants as mount

-- the type of a mount that is always there, by its name
abbrev pub fixed_type : Text → Option MountType
fixed_type name =
    if same name (codes "auth") then Some mount.Token
    else (if same name (codes "sys") then Some mount.System
    else (if same name (codes "cubbyhole") then Some mount.Cubbyhole
    else None))

-- the type of the mounts of an engine
abbrev pub engine_type : Engine → MountType
engine_type kv = mount.Kv
engine_type issued = mount.Issued

-- the type of a mount
abbrev pub type_of : Mount → MountType
type_of m = engine_type m.engine

-- the type of what is at a name, by the mount of that name
abbrev pub type_at : Option Mount → Text → Option MountType
type_at o name = or_else (fixed_type name) (option_map type_of o)
