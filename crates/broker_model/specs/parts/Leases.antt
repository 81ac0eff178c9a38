-- The part of leases: what the routes under `sys/leases/` mean, and what they do to the maps (Vault's documentation,
-- "/sys/leases").
use Rattle.std.specs.Prelude.{◌-◌, ℕ, List, Option, Some, None, Result, Ok}
use Rattle.records.specs.Words.{Text, Broker, Names, nothing, reply, plainly, Done, ◌>>=◌, Refusal, Part, of_leases}
use Rattle.leases.specs.Leases as leases
use Rattle.leases.specs.Words.{Times, times_of}
use Rattle.mounts.specs.declared.operation.LeaseOperation.{LeaseOperation}
use Rattle.mounts.specs.declared.operation.LeaseOperation.TheVariants as operation
use Rattle.api_json.specs.Words.{lease_object, plain_reply, lease_reply}
use Rattle.api_json.specs.Readers as reader
use Rattle.api_json.specs.declared.lease_objects.LeaseObject.{LeaseObject}
use Rattle.broker_model.specs.Traits.{Traits, plain}
use Rattle.broker_model.specs.declared.commands.LeaseCommand.{LeaseCommand}
use Rattle.broker_model.specs.declared.commands.LeaseCommand.TheVariants as command
use Rattle.broker_model.specs.parts.Bodies.{read_as, read_none}

-- ---- commands

-- what an operation means, by the body
abbrev pub lease_command : LeaseOperation → List ℕ → Result LeaseCommand Refusal
lease_command operation.LookUp body = read_as reader.lease_id command.LookUp body
lease_command operation.Renew body = read_as reader.lease_renewal command.Renew body
lease_command operation.Revoke body = read_as reader.lease_id command.Revoke body
lease_command operation.RevokeUnder body = read_none command.RevokeUnder body

-- which rows a command may change
abbrev pub lease_changes : LeaseCommand → Option Part
lease_changes (command.LookUp id) = None
lease_changes _ = Some of_leases

abbrev pub lease_traits : LeaseCommand → Traits
lease_traits command = record plain { changes = lease_changes command }

-- ---- what they do

-- a lease of an id as a reply prints it, at a clock
abbrev pub shown_lease : ℕ → Text → Times → LeaseObject
shown_lease now id l =
    record { ends = l.ends; id = id; issued = l.issued; renewed = l.renewed; ttl = l.ends - now }

-- the lease of an id, without its credential
abbrev pub look_up : Broker → Names → Text → Result Done Refusal
look_up b names id = do
  l ← leases.lookup b id
  Ok (plainly (reply (plain_reply names.request (lease_object (shown_lease b.clock id (times_of l)))) None) b)

-- a lease gets the end that the increment gives; the reply has the seconds to it
abbrev pub renew : Broker → Names → Text → ℕ → Result Done Refusal
renew b names id increment = do
  r ← leases.renew b id increment
  Ok (plainly (reply (lease_reply names.request id (r.ends - b.clock) None) None) r.next)

-- ---- the part

-- what a command does below a prefix; a revocation passes over what is not there
abbrev pub act_on_leases : Broker → Names → Text → LeaseCommand → Result Done Refusal
act_on_leases b names prefix (command.LookUp id) = look_up b names id
act_on_leases b names prefix (command.Renew asked) = renew b names asked.lease_id asked.increment
act_on_leases b names prefix (command.Revoke id) = Ok (plainly nothing (leases.revoke b id))
act_on_leases b names prefix command.RevokeUnder = Ok (plainly nothing (leases.revoke_under b prefix))
