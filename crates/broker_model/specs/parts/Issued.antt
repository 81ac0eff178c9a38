-- The part of issued credentials: what the routes of a mount that issues them mean, and what they do to the maps (this
-- project's engine).
use Rattle.std.specs.Prelude.{◌||◌, ℕ, List, Option, Some, None, Result, Ok}
use Rattle.records.specs.Words.{Text, Broker, Names, nothing, reply, plainly, Done, ◌>>=◌, some_or, Refusal, Part}
use Rattle.records.specs.Words.{of_leases, of_roles, of_used}
use Rattle.broker_types.specs.declared.refusal.Refusal.TheVariants as refusal
use Rattle.leases.specs.Leases as leases
use Rattle.leases.specs.Roles as roles
use Rattle.leases.specs.Words.{Issued}
use Rattle.mounts.specs.declared.operation.IssuedOperation.{IssuedOperation}
use Rattle.mounts.specs.declared.operation.IssuedOperation.TheVariants as operation
use Rattle.api_json.specs.Words.{role_object, credential_object, valid_object, plain_reply, lease_reply}
use Rattle.api_json.specs.Readers as reader
use Rattle.api_json.specs.declared.issued_bodies.RoleSettings.{RoleSettings}
use Rattle.broker_model.specs.Traits.{Traits, lease_names, names_needed, plain}
use Rattle.broker_model.specs.declared.commands.IssuedCommand.{IssuedCommand}
use Rattle.broker_model.specs.declared.commands.IssuedCommand.TheVariants as command
use Rattle.broker_model.specs.declared.commands.Needs.{Needs}
use Rattle.broker_model.specs.declared.commands.Needs.TheVariants as needs
use Rattle.broker_model.specs.parts.Bodies.{read_as}
use Rattle.broker_model.specs.parts.Place.{Place}

-- ---- commands

-- what an operation means, by the body; only what POST and PUT ask for looks at it
abbrev pub issued_command : IssuedOperation → List ℕ → Result IssuedCommand Refusal
issued_command operation.ShowRole body = Ok command.ShowRole
issued_command operation.SetRole body = read_as reader.role_settings command.SetRole body
issued_command operation.RemoveRole body = Ok command.RemoveRole
issued_command operation.Issue body = Ok command.Issue
issued_command operation.Verify body = read_as reader.credential command.Verify body

-- which identifiers a command needs: what is issued has those of a lease
abbrev pub issued_needs : IssuedCommand → Needs
issued_needs command.Issue = needs.Lease
issued_needs _ = needs.Nothing

-- leases with their credentials, and the identifiers that were given out
abbrev pub of_issued : Part
of_issued k = of_leases k || of_used k

-- which rows a command may change
abbrev pub issued_changes : IssuedCommand → Option Part
issued_changes (command.SetRole asked) = Some of_roles
issued_changes command.RemoveRole = Some of_roles
issued_changes command.Issue = Some of_issued
issued_changes _ = None

abbrev pub issued_traits : IssuedCommand → Traits
issued_traits command =
    record plain { own = names_needed (issued_needs command); changes = issued_changes command }

-- ---- roles

-- the role as it was set; 404 if there is none
abbrev pub show_role : Broker → Names → Place → Result Done Refusal
show_role b names p = do
  r ← some_or refusal.NotFound (roles.role b p.mount p.path)
  Ok (plainly (reply (plain_reply names.request (role_object r.max_ttl r.ttl)) None) b)

-- a role is set
abbrev pub set_role : Broker → Place → RoleSettings → Result Done Refusal
set_role b p asked = do
  next ← roles.set_role b p.mount p.path (record { ttl = asked.ttl; max_ttl = asked.max_ttl })
  Ok (plainly nothing next)

-- ---- credentials

-- what was issued, with its lease
abbrev pub issued_reply : Names → Issued → Done
issued_reply names i =
    record {
      answered =
          reply (lease_reply names.request i.lease_id i.lease.ttl (Some (credential_object names.credential))) None;
      next = i.next;
      taken = lease_names names;
      handed = None;
    }

-- a credential of the role for the caller c, unless it has spent its last use; 404 if there is no role
abbrev pub issue : Broker → Text → Names → Place → Result Done Refusal
issue b c names p = do
  i ← roles.creds b c p.mount p.path names.lease names.credential
  Ok (issued_reply names i)

-- whether the lease of a credential of any mount still stands
abbrev pub verify : Broker → Names → Text → Done
verify b names credential =
    plainly (reply (plain_reply names.request (valid_object (leases.verify b credential))) None) b

-- ---- the part

-- what a command of the caller c does at the place of a role; a removal passes over a role that is not there
abbrev pub act_on_issued : Broker → Text → Names → Place → IssuedCommand → Result Done Refusal
act_on_issued b c names p command.ShowRole = show_role b names p
act_on_issued b c names p (command.SetRole asked) = set_role b p asked
act_on_issued b c names p command.RemoveRole = Ok (plainly nothing (roles.remove_role b p.mount p.path))
act_on_issued b c names p command.Issue = issue b c names p
act_on_issued b c names p (command.Verify credential) = Ok (verify b names credential)
