-- The part of versioned secrets: what the routes of a mount of secrets mean, by a body or a version, and what they do
-- to the maps (Vault's documentation, "KV secrets engine - version 2 (API)").
use Rattle.records.specs.Words.{ℕ, List, Option, Some, None, Result, Ok, ◌>>=◌, some_or, Refusal, Broker, Names}
use Rattle.records.specs.Words.{nothing, reply, plainly, Done, Part, of_mounts, of_secrets}
use Rattle.broker_types.specs.declared.refusal.Refusal.TheVariants as refusal
use Rattle.kv2.specs.Words.{Settings}
use Rattle.kv2.specs.Secrets as secrets
use Rattle.mounts.specs.declared.operation.SecretOperation.{SecretOperation}
use Rattle.mounts.specs.declared.operation.SecretOperation.TheVariants as operation
use Rattle.api_json.specs.declared.secret_bodies.SecretWrite.{SecretWrite}
use Rattle.api_json.specs.declared.secret_bodies.KeySettings.{KeySettings}
use Rattle.api_json.specs.declared.secret_bodies.MountSettings.{MountSettings}
use Rattle.api_json.specs.Readers as reader
use Rattle.broker_model.specs.Traits.{Traits, plain}
use Rattle.broker_model.specs.declared.commands.SecretCommand.{SecretCommand}
use Rattle.broker_model.specs.declared.commands.SecretCommand.TheVariants as command
use Rattle.broker_model.specs.parts.Bodies.{read_as}
use Rattle.broker_model.specs.parts.Lists.{listed}
use Rattle.broker_model.specs.parts.Place.{Place}
use Rattle.broker_model.specs.parts.SecretReplies.{settings_reply, version_answered, written_reply, metadata_reply}

-- ---- commands

-- GET of `data/PATH`, by the version that the query asks for
abbrev pub read_meant : List ℕ → Result SecretCommand Refusal
read_meant version = do
  number ← reader.version_number version
  Ok (command.Read number)

-- What an operation means, by the version that the query asks for and the body. Only a read looks at the version, and
-- only what POST and PUT ask for at the body.
abbrev pub secret_command : SecretOperation → List ℕ → List ℕ → Result SecretCommand Refusal
secret_command operation.ShowSettings version body = Ok command.ShowSettings
secret_command operation.SetSettings version body = read_as reader.mount_settings command.SetSettings body
secret_command operation.Read version body = read_meant version
secret_command operation.Write version body = read_as reader.secret_write command.Write body
secret_command operation.DeleteCurrent version body = Ok command.DeleteCurrent
secret_command operation.Delete version body = read_as reader.versions command.Delete body
secret_command operation.Undelete version body = read_as reader.versions command.Undelete body
secret_command operation.Destroy version body = read_as reader.versions command.Destroy body
secret_command operation.ShowMetadata version body = Ok command.ShowMetadata
secret_command operation.SetMetadata version body = read_as reader.key_settings command.SetMetadata body
secret_command operation.Remove version body = Ok command.Remove
secret_command operation.List version body = Ok command.List

-- which rows a command may change: settings of the mount are in its row, all else in rows of secrets and of versions
abbrev pub secret_changes : SecretCommand → Option Part
secret_changes command.ShowSettings = None
secret_changes (command.SetSettings asked) = Some of_mounts
secret_changes (command.Read n) = None
secret_changes command.ShowMetadata = None
secret_changes command.List = None
secret_changes _ = Some of_secrets

abbrev pub secret_traits : SecretCommand → Traits
secret_traits command = record plain { changes = secret_changes command }

-- ---- settings

-- the settings of the mount
abbrev pub settings : Broker → Names → Place → Result Done Refusal
settings b names p = do
  m ← some_or refusal.NotFound (secrets.config b p.mount)
  Ok (plainly (reply (settings_reply names.request m) None) b)

-- the settings that the body gives; the others stay
abbrev pub set : Broker → Place → MountSettings → Done
set b p asked = plainly nothing (secrets.set_config b p.mount asked.cas_required asked.max_versions)

-- ---- versions

-- the version that is asked for; one that is not kept is 404
abbrev pub read : Broker → Names → Place → ℕ → Result Done Refusal
read b names p n = do
  v ← some_or refusal.NotFound (secrets.read b p.mount p.path n)
  Ok (plainly (version_answered names.request v) b)

-- one more version
abbrev pub write : Broker → Names → Place → SecretWrite → Result Done Refusal
write b names p asked = do
  w ← secrets.write b p.mount p.path asked.cas asked.object
  Ok (plainly (reply (written_reply names.request b.clock w.custom_metadata w.number) None) w.next)

-- ---- metadata and lists

-- the secret without its texts; one that is not there is 404
abbrev pub metadata : Broker → Names → Place → Result Done Refusal
metadata b names p = do
  m ← some_or refusal.NotFound (secrets.metadata b p.mount p.path)
  Ok (plainly (reply (metadata_reply names.request m) None) b)

-- the settings that a body gives for a secret
abbrev pub given_settings : KeySettings → Settings
given_settings asked = record {
  cas_required = asked.cas_required;
  max_versions = asked.max_versions;
  custom_metadata = asked.custom_metadata;
}

-- the settings of the secret that the body gives; the others stay, and one that is not there is made
abbrev pub set_metadata : Broker → Place → KeySettings → Done
set_metadata b p asked = plainly nothing (secrets.set_metadata b p.mount p.path (given_settings asked))

-- the secrets and folders of the folder; none is 404
abbrev pub list : Broker → Names → Place → Result Done Refusal
list b names p = listed b names (secrets.list b p.mount p.path)

-- ---- the part

-- what a command on a place does; changes and removals pass over a version, or a secret, that is not there
abbrev pub act_on_secrets : Broker → Names → Place → SecretCommand → Result Done Refusal
act_on_secrets b names p command.ShowSettings = settings b names p
act_on_secrets b names p (command.SetSettings asked) = Ok (set b p asked)
act_on_secrets b names p (command.Read n) = read b names p n
act_on_secrets b names p (command.Write asked) = write b names p asked
act_on_secrets b names p command.DeleteCurrent = Ok (plainly nothing (secrets.delete b p.mount p.path))
act_on_secrets b names p (command.Delete ns) = Ok (plainly nothing (secrets.delete_versions b p.mount p.path ns))
act_on_secrets b names p (command.Undelete ns) = Ok (plainly nothing (secrets.undelete b p.mount p.path ns))
act_on_secrets b names p (command.Destroy ns) = Ok (plainly nothing (secrets.destroy b p.mount p.path ns))
act_on_secrets b names p command.ShowMetadata = metadata b names p
act_on_secrets b names p (command.SetMetadata asked) = Ok (set_metadata b p asked)
act_on_secrets b names p command.Remove = Ok (plainly nothing (secrets.remove_key b p.mount p.path))
act_on_secrets b names p command.List = list b names p
