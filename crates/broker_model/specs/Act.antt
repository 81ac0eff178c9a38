-- What each command does to the maps, part by part (this project's definition).
use Rattle.records.specs.Words.{Option, Some, None, Result, Err, Text, Broker, Names, Done, Refusal}
use Rattle.broker_model.specs.Command.{Command, on_cubbyhole, on_token, on_secret, on_policy, on_mount, on_lease}
use Rattle.broker_model.specs.Command.{on_issued, on_wrapping}
use Rattle.broker_model.specs.parts.Cubbyholes.{act_on_cubbyhole}
use Rattle.broker_model.specs.parts.AclPolicies.{act_on_policies}
use Rattle.broker_model.specs.parts.Issued.{act_on_issued}
use Rattle.broker_model.specs.parts.Leases.{act_on_leases}
use Rattle.broker_model.specs.parts.Mounts.{act_on_mounts}
use Rattle.broker_model.specs.parts.Secrets.{act_on_secrets}
use Rattle.broker_model.specs.parts.Tokens.{act_on_tokens}
use Rattle.broker_model.specs.parts.Wrappings.{act_on_wrappings}
use Rattle.broker_model.specs.Order.{permission_denied}

-- by a caller
abbrev pub act_for : Broker → Text → Names → Command → Result Done Refusal
act_for b c names (on_cubbyhole path command) = act_on_cubbyhole b c names path command
act_for b c names (on_token command) = act_on_tokens b c names command
act_for b c names (on_secret place command) = act_on_secrets b names place command
act_for b c names (on_policy name command) = act_on_policies b names name command
act_for b c names (on_mount name command) = act_on_mounts b names name command
act_for b c names (on_lease prefix command) = act_on_leases b names prefix command
act_for b c names (on_issued place command) = act_on_issued b c names place command
act_for b c names (on_wrapping command) = act_on_wrappings b names command

-- without a caller: an open request; nothing else is done
abbrev pub act_openly : Broker → Names → Command → Result Done Refusal
act_openly b names (on_cubbyhole path command) = Err permission_denied
act_openly b names (on_token command) = Err permission_denied
act_openly b names (on_secret place command) = Err permission_denied
act_openly b names (on_policy name command) = Err permission_denied
act_openly b names (on_mount name command) = Err permission_denied
act_openly b names (on_lease prefix command) = Err permission_denied
act_openly b names (on_issued place command) = Err permission_denied
act_openly b names (on_wrapping command) = act_on_wrappings b names command

abbrev pub act : Broker → Option Text → Names → Command → Result Done Refusal
act b None names command = act_openly b names command
act b (Some c) names command = act_for b c names command
