-- What a request means: by its route, then by its body or its version (this project's definition).
use Rattle.records.specs.Words.{Result, Ok, Text, Map, Mount, ◌>>=◌, Ask, Refusal}
use Rattle.mounts.specs.declared.operation.Operation.{Operation}
use Rattle.mounts.specs.declared.operation.Operation.TheVariants.{Cubbyholes, Tokens, Secrets, Policies, Mounts, Leases}
use Rattle.mounts.specs.declared.operation.Operation.TheVariants.{Issued, Wrappings}
use Rattle.mounts.specs.Words.{Route, route_of}
use Rattle.broker_model.specs.declared.commands.CubbyholeCommand.{CubbyholeCommand}
use Rattle.broker_model.specs.declared.commands.IssuedCommand.{IssuedCommand}
use Rattle.broker_model.specs.declared.commands.LeaseCommand.{LeaseCommand}
use Rattle.broker_model.specs.declared.commands.MountCommand.{MountCommand}
use Rattle.broker_model.specs.declared.commands.PolicyCommand.{PolicyCommand}
use Rattle.broker_model.specs.declared.commands.SecretCommand.{SecretCommand}
use Rattle.broker_model.specs.declared.commands.TokenCommand.{TokenCommand}
use Rattle.broker_model.specs.declared.commands.WrappingCommand.{WrappingCommand}
use Rattle.broker_model.specs.parts.Cubbyholes.{cubbyhole_command}
use Rattle.broker_model.specs.parts.AclPolicies.{policy_command}
use Rattle.broker_model.specs.parts.Issued.{issued_command}
use Rattle.broker_model.specs.parts.Leases.{lease_command}
use Rattle.broker_model.specs.parts.Mounts.{mount_command}
use Rattle.broker_model.specs.parts.Place.{Place, at}
use Rattle.broker_model.specs.parts.Secrets.{secret_command}
use Rattle.broker_model.specs.parts.TokenCommands.{token_command}
use Rattle.broker_model.specs.parts.WrappingCommands.{wrapping_command}

-- part by part, with where it acts: a path of the caller's cubbyhole, a place of secrets, the name of a policy, the
-- name of a mount, a prefix of leases, the place of a role
pub data Command : Type 0 where
  on_cubbyhole : Text → CubbyholeCommand → Command
  on_token : TokenCommand → Command
  on_secret : Place → SecretCommand → Command
  on_policy : Text → PolicyCommand → Command
  on_mount : Text → MountCommand → Command
  on_lease : Text → LeaseCommand → Command
  on_issued : Place → IssuedCommand → Command
  on_wrapping : WrappingCommand → Command

-- a command of a part is one of all
abbrev pub meant_by : {C : Type 0} → (C → Command) → Result C Refusal → Result Command Refusal
meant_by on meant = do
  command ← meant
  Ok (on command)

-- where the route leads in a mount of secrets, or of credentials
abbrev pub place_of : Route → Place
place_of r = at r.mount r.parameter

-- by the operation of the route
abbrev pub command_by : Operation → Route → Ask → Result Command Refusal
command_by (Cubbyholes operation) r a = meant_by (on_cubbyhole r.parameter) (cubbyhole_command operation a.body)
command_by (Tokens operation) r a = meant_by on_token (token_command operation a.body)
command_by (Secrets operation) r a = meant_by (on_secret (place_of r)) (secret_command operation a.version a.body)
command_by (Policies operation) r a = meant_by (on_policy r.parameter) (policy_command operation a.body)
command_by (Mounts operation) r a = meant_by (on_mount r.parameter) (mount_command operation a.body)
command_by (Leases operation) r a = meant_by (on_lease r.parameter) (lease_command operation a.body)
command_by (Issued operation) r a = meant_by (on_issued (place_of r)) (issued_command operation a.body)
command_by (Wrappings operation) r a = meant_by on_wrapping (wrapping_command operation a.token a.body)

-- what an ask of this route means
abbrev pub command_for : Route → Ask → Result Command Refusal
command_for r a = command_by r.operation r a

-- what an ask means where these mounts are
abbrev pub command_of : Map Mount → Ask → Result Command Refusal
command_of mounts a = do
  r ← route_of mounts a.verb a.path
  command_for r a
