-- The part of policies: what its routes mean, by a body, and what they do to the maps (Vault's documentation,
-- "/sys/policies").
use Rattle.records.specs.Words.{ℕ, List, Option, Some, None, Result, Ok, Refusal, Broker, Names, nothing, reply}
use Rattle.records.specs.Words.{plainly, Done, ◌>>=◌, some_or, Text, Part, of_policies}
use Rattle.broker_types.specs.declared.refusal.Refusal.TheVariants as refusal
use Rattle.policies.specs.Policies as policies
use Rattle.mounts.specs.declared.operation.PolicyOperation.{PolicyOperation}
use Rattle.mounts.specs.declared.operation.PolicyOperation.TheVariants as operation
use Rattle.api_json.specs.Words.{keys_object, policy_object, plain_reply}
use Rattle.api_json.specs.Readers as reader
use Rattle.broker_model.specs.Traits.{Traits, plain}
use Rattle.broker_model.specs.declared.commands.PolicyCommand.{PolicyCommand}
use Rattle.broker_model.specs.declared.commands.PolicyCommand.TheVariants as command
use Rattle.broker_model.specs.parts.Bodies.{read_as}

-- ---- commands

-- what an operation means, by the body; only what POST and PUT ask for looks at it
abbrev pub policy_command : PolicyOperation → List ℕ → Result PolicyCommand Refusal
policy_command operation.List body = Ok command.List
policy_command operation.Show body = Ok command.Show
policy_command operation.Set body = read_as reader.policy_text command.Set body
policy_command operation.Remove body = Ok command.Remove

-- which rows a command may change
abbrev pub policy_changes : PolicyCommand → Option Part
policy_changes (command.Set text) = Some of_policies
policy_changes command.Remove = Some of_policies
policy_changes _ = None

abbrev pub policy_traits : PolicyCommand → Traits
policy_traits command = record plain { changes = policy_changes command }

-- ---- what they do

-- the names of all policies
abbrev pub list : Broker → Names → Result Done Refusal
list b names = Ok (plainly (reply (plain_reply names.request (keys_object (policies.listed b.policies))) None) b)

-- the policy of this name with its text; 404 if there is none
abbrev pub show : Broker → Names → Text → Result Done Refusal
show b names name = do
  text ← some_or refusal.NotFound (policies.text_of b.policies name)
  Ok (plainly (reply (plain_reply names.request (policy_object name text)) None) b)

-- a policy is kept with its text as it was handed in
abbrev pub set : Broker → Text → Text → Result Done Refusal
set b name text = do
  next ← policies.set b.policies name text
  Ok (plainly nothing (record b { policies = next }))

-- a policy is deleted, if it is there
abbrev pub remove : Broker → Text → Result Done Refusal
remove b name = do
  next ← policies.deleted b.policies name
  Ok (plainly nothing (record b { policies = next }))

-- what a command does at the name of a policy
abbrev pub act_on_policies : Broker → Names → Text → PolicyCommand → Result Done Refusal
act_on_policies b names name command.List = list b names
act_on_policies b names name command.Show = show b names name
act_on_policies b names name (command.Set text) = set b name text
act_on_policies b names name command.Remove = remove b name
