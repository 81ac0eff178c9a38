-- Commands that fit into rows: a text that is kept is a short one, of an object, custom metadata are few and short, and
-- a time that is kept is no longer than one that can be given (this project's row format).
use Rattle.std.specs.Prelude.{◌≤◌, Some, ⊤}
use Rattle.broker_model.specs.Words.{longest_duration, IsKept, IsKeptSettings, RoleSettings}
use Rattle.broker_model.specs.declared.commands.CubbyholeCommand.{CubbyholeCommand}
use Rattle.broker_model.specs.declared.commands.CubbyholeCommand.TheVariants as cubbyhole
use Rattle.broker_model.specs.declared.commands.IssuedCommand.{IssuedCommand}
use Rattle.broker_model.specs.declared.commands.IssuedCommand.TheVariants as issued
use Rattle.broker_model.specs.declared.commands.SecretCommand.{SecretCommand}
use Rattle.broker_model.specs.declared.commands.SecretCommand.TheVariants as secret

-- what is written to a cubbyhole
abbrev pub IsCubbyholeCommandInRange : CubbyholeCommand → Type 0
IsCubbyholeCommandInRange (cubbyhole.Write (Some text)) = IsKept text
IsCubbyholeCommandInRange _ = ⊤

-- what is written as a version, or as settings of a secret
abbrev pub IsSecretCommandInRange : SecretCommand → Type 0
IsSecretCommandInRange (secret.Write asked) = IsKept asked.object
IsSecretCommandInRange (secret.SetMetadata asked) = IsKeptSettings asked
IsSecretCommandInRange _ = ⊤

-- the times of a role
pub record AreRoleSettingsInRange (asked : RoleSettings) : Type 0 where
  pub ttl : asked.ttl ≤ longest_duration
  pub max_ttl : asked.max_ttl ≤ longest_duration

-- what is set as a role
abbrev pub IsIssuedCommandInRange : IssuedCommand → Type 0
IsIssuedCommandInRange (issued.SetRole asked) = AreRoleSettingsInRange asked
IsIssuedCommandInRange _ = ⊤
