-- The part of cubbyholes: what its operations mean, and what they do to the maps (Vault's documentation, "Cubbyhole
-- secrets engine (API)").
use Rattle.records.specs.Words.{ℕ, List, Option, Some, None, Result, Ok, Text, Broker, Names, nothing, reply, plainly}
use Rattle.records.specs.Words.{Done, ◌>>=◌, some_or, Refusal, Part, of_cubbyholes}
use Rattle.serde_json.specs.Data.{Members, no_members, member, object}
use Rattle.serde_json.specs.Written.{compact_text}
use Rattle.broker_types.specs.declared.refusal.Refusal.TheVariants as refusal
use Rattle.broker_types.specs.declared.refusal.Reason.TheVariants as reason
use Rattle.cubbyhole.specs.Cubbyhole as cubbyhole
use Rattle.mounts.specs.declared.operation.CubbyholeOperation.{CubbyholeOperation}
use Rattle.mounts.specs.declared.operation.CubbyholeOperation.TheVariants as operation
use Rattle.api_json.specs.Words.{body_members, plain_reply}
use Rattle.broker_model.specs.Traits.{Traits, plain}
use Rattle.broker_model.specs.declared.commands.CubbyholeCommand.{CubbyholeCommand}
use Rattle.broker_model.specs.declared.commands.CubbyholeCommand.TheVariants as command
use Rattle.broker_model.specs.parts.Lists.{listed}

-- the compact text of an object, if it has members
abbrev pub full_text : Members → Option Text
full_text no_members = None
full_text (member name value rest) = Some (compact_text (object (member name value rest)))

-- what an operation means, by the body
abbrev pub cubbyhole_command : CubbyholeOperation → List ℕ → Result CubbyholeCommand Refusal
cubbyhole_command operation.Read body = Ok command.Read
cubbyhole_command operation.List body = Ok command.List
cubbyhole_command operation.Delete body = Ok command.Delete
cubbyhole_command operation.Write body = do
  members ← body_members body
  Ok (command.Write (full_text members))

-- which rows a command may change
abbrev pub cubbyhole_changes : CubbyholeCommand → Option Part
cubbyhole_changes (command.Write full) = Some of_cubbyholes
cubbyhole_changes command.Delete = Some of_cubbyholes
cubbyhole_changes _ = None

abbrev pub cubbyhole_traits : CubbyholeCommand → Traits
cubbyhole_traits command = record plain { changes = cubbyhole_changes command }

-- what a command of the caller c does at a path: the children of a folder are listed, the empty path being that of the
-- whole cubbyhole; an object without members is 400 `missing data fields`; and a deletion passes over what is not there
abbrev pub act_on_cubbyhole : Broker → Text → Names → Text → CubbyholeCommand → Result Done Refusal
act_on_cubbyhole b c names path command.Read = do
  kept ← some_or refusal.NotFound (cubbyhole.object_at b c path)
  Ok (plainly (reply (plain_reply names.request kept) None) b)
act_on_cubbyhole b c names path command.List = listed b names (cubbyhole.list b c path)
act_on_cubbyhole b c names path command.Delete = Ok (plainly nothing (cubbyhole.delete b c path))
act_on_cubbyhole b c names path (command.Write full) = do
  text ← some_or (refusal.BadRequest reason.MissingData) full
  Ok (plainly nothing (cubbyhole.write b c path text))
