-- The part of mounts: what the routes under `sys/mounts` mean, and what they do to the maps (Vault's documentation,
-- "/sys/mounts").
use Rattle.std.specs.Prelude.{◌||◌, if◌then◌else◌, ℕ, List, map, Option, Some, None, is_some, Result, Ok, codes}
use Rattle.records.specs.Words.{Text, get, Broker, Names, nothing, reply, plainly, Done, ◌>>=◌, Refusal, Part}
use Rattle.records.specs.Words.{of_leases, of_mounts, of_roles, of_secrets}
use Rattle.leases.specs.Leases as leases
use Rattle.leases.specs.Roles as roles
use Rattle.mounts.specs.Mounts as mounts
use Rattle.mounts.specs.declared.mount_type.MountType.{MountType}
use Rattle.mounts.specs.declared.mount_type.MountType.TheVariants as type
use Rattle.mounts.specs.declared.operation.MountOperation.{MountOperation}
use Rattle.mounts.specs.declared.operation.MountOperation.TheVariants as operation
use Rattle.kv2.specs.Secrets as secrets
use Rattle.api_json.specs.Words.{mounts_object, plain_reply}
use Rattle.api_json.specs.Readers as reader
use Rattle.api_json.specs.declared.mount_bodies.MountCreation.{MountCreation}
use Rattle.api_json.specs.declared.mount_objects.MountObject.{MountObject}
use Rattle.broker_model.specs.Traits.{Traits, plain}
use Rattle.broker_model.specs.declared.commands.MountCommand.{MountCommand}
use Rattle.broker_model.specs.declared.commands.MountCommand.TheVariants as command
use Rattle.broker_model.specs.parts.Bodies.{read_as}

-- ---- commands

-- what an operation means, by the body; only what POST and PUT ask for looks at it
abbrev pub mount_command : MountOperation → List ℕ → Result MountCommand Refusal
mount_command operation.List body = Ok command.List
mount_command operation.Enable body = read_as reader.mount_creation command.Enable body
mount_command operation.Disable body = Ok command.Disable

-- what is kept under the names of mounts: secrets, roles and leases
abbrev pub of_kept : Part
of_kept k = of_secrets k || of_roles k || of_leases k

-- mounts with all that is kept under their names
abbrev pub of_mounts_and_kept : Part
of_mounts_and_kept k = of_mounts k || of_kept k

-- which rows a command may change
abbrev pub mount_changes : MountCommand → Option Part
mount_changes command.List = None
mount_changes (command.Enable asked) = Some of_mounts
mount_changes command.Disable = Some of_mounts_and_kept

abbrev pub mount_traits : MountCommand → Traits
mount_traits command = record plain { changes = mount_changes command }

-- ---- the list of mounts

-- the type of a mount as a reply prints it
abbrev pub type_name : MountType → Text
type_name type.Token = codes "token"
type_name type.System = codes "system"
type_name type.Cubbyhole = codes "cubbyhole"
type_name type.Kv = codes "kv"
type_name type.Issued = codes "issued"

-- the version of the type, if it has one
abbrev pub type_version : MountType → Option Text
type_version type.Token = None
type_version type.System = None
type_version type.Cubbyhole = None
type_version type.Kv = Some (codes "2")
type_version type.Issued = None

-- a mount of a type as a reply prints it
abbrev pub shown_mount : Text × MountType → MountObject
shown_mount m = record { name = m.0; type_name = type_name m.1; version = type_version m.1 }

-- all mounts, in the order of their printed names
abbrev pub list : Broker → Names → Done
list b names =
    plainly (reply (plain_reply names.request (mounts_object (map shown_mount (mounts.listed b.mounts)))) None) b

-- ---- mounts that come and go

-- one more mount, without anything in it
abbrev pub enable : Broker → Text → MountCreation → Result Done Refusal
enable b name asked = do
  next ← mounts.enabled b.mounts name asked.type_name asked.version
  Ok (plainly nothing (record b { mounts = next }))

-- what is kept under the name of a mount goes with it: secrets, roles, and the leases of any token
abbrev pub without_kept : Broker → Text → Broker
without_kept b name = leases.revoke_under (roles.drop_roles (secrets.drop_mount b name) name) name

-- a mount is disabled, if it is there
abbrev pub disable : Broker → Text → Result Done Refusal
disable b name = do
  next ← mounts.disabled b.mounts name
  Ok (plainly nothing
      (if is_some (get b.mounts name) then without_kept (record b { mounts = next }) name else b))

-- ---- the part

-- what a command does at the name of a mount
abbrev pub act_on_mounts : Broker → Names → Text → MountCommand → Result Done Refusal
act_on_mounts b names name command.List = Ok (list b names)
act_on_mounts b names name (command.Enable asked) = enable b name asked
act_on_mounts b names name command.Disable = disable b name
