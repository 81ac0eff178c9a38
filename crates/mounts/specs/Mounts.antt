-- Mounts, enabled, disabled and listed (Vault's documentation, "/sys/mounts"; the engine that issues credentials, and
-- the names that are reserved, are this project's).
use Rattle.std.specs.Prelude.{◌==◌, ◌∷◌, ◌++◌, ◌&&◌, ◌||◌, if◌then◌else◌, ℕ, List, [], map, Bool, false, not, Option, ⊤}
use Rattle.records.specs.Words.{Some, None, is_some, Result, Ok, codes, list_any, fold, option_map_or, Text, same}
use Rattle.records.specs.Words.{is_name, reserved_names, Map, get, empty, put, without, entries, Mount, Engine, kv}
use Rattle.records.specs.Words.{issued, ◌>>=◌, some_or, unless, Refusal, slash}
use Rattle.broker_types.specs.declared.refusal.Refusal.TheVariants as refusal
use Rattle.broker_types.specs.declared.refusal.Reason.TheVariants as reason
use Rattle.mounts.specs.declared.mount_type.MountType.{MountType}
use Rattle.mounts.specs.declared.mount_type.MountType.TheVariants as mount
use Rattle.mounts.specs.Types.{type_of}

-- the engine of a type, by the version of its options: `kv` needs version 2; `kv-v2` and `issued` need none
abbrev pub engine_asked : Text → Option ℕ → Option Engine
engine_asked type version =
    if same type (codes "issued") then Some issued
    else (if same type (codes "kv-v2") then Some kv
    else (if same type (codes "kv") && option_map_or (λ v. v == 2) version false then Some kv
    else None))

-- a mount of an engine, without settings
abbrev pub plain_mount : Engine → Mount
plain_mount engine = record { engine = engine; cas_required = false; max_versions = 0 }

-- the mount of a type at a name, which has a mount already or not; the first refusal is the answer
abbrev pub new_mount : Bool → Text → Text → Option ℕ → Result Mount Refusal
new_mount is_there name type version = do
  named ← unless (is_name name) (refusal.BadRequest reason.InvalidName)
  free ← unless (not (is_there || list_any (same name) reserved_names)) (refusal.BadRequest reason.PathInUse)
  engine ← some_or (refusal.BadRequest reason.UnsupportedMount) (engine_asked type version)
  Ok (plain_mount engine)

-- the mounts with one more
abbrev pub enabled : Map Mount → Text → Text → Option ℕ → Result (Map Mount) Refusal
enabled mounts name type version = do
  m ← new_mount (is_some (get mounts name)) name type version
  Ok (put mounts name m)

-- the names of the mounts that cannot be disabled
abbrev pub fixed_names : List Text
fixed_names = codes "sys" ∷ codes "auth" ∷ codes "cubbyhole" ∷ []

-- a mount that is always there cannot be disabled
abbrev pub may_go : Text → Result ⊤ Refusal
may_go name = unless (not (list_any (same name) fixed_names)) (refusal.BadRequest reason.MountFixed)

-- the mounts without one
abbrev pub disabled : Map Mount → Text → Result (Map Mount) Refusal
disabled mounts name = do
  free ← may_go name
  Ok (without mounts name)

-- ---- the list of mounts

-- the type of a mount, with its name
abbrev pub typed : Text × Mount → Text × MountType
typed m = (m.0, type_of m.1)

-- a name as a reply prints it, with a slash behind it
abbrev pub printed : Text → Text
printed name = name ++ slash ∷ []

-- types by printed names, with one more
abbrev pub with_type : Map MountType → Text × MountType → Map MountType
with_type types m = put types (printed m.0) m.1

-- the types of the mounts that are listed, by their printed names: two are always there
abbrev pub listed_types : Map Mount → Map MountType
listed_types mounts =
    let of_rows = fold with_type empty (map typed (entries mounts)) in
    with_type (with_type of_rows (codes "cubbyhole", mount.Cubbyhole)) (codes "sys", mount.System)

-- the list of all mounts, in the order of their printed names by bytes: `db-2/` comes before `db/`
abbrev pub listed : Map Mount → List (Text × MountType)
listed mounts = entries (listed_types mounts)
