-- What the routes under `auth/token/` mean: which command a body is, and what each command needs (Vault's
-- documentation, "Token auth method (API)").
use Rattle.std.specs.Prelude.{◌||◌, ℕ, List, Option, Some, None, Result, Ok}
use Rattle.records.specs.Words.{Refusal, Part, of_tokens, of_tokens_and_theirs, of_used, of_waiting}
use Rattle.mounts.specs.declared.operation.TokenOperation.{TokenOperation}
use Rattle.mounts.specs.declared.operation.TokenOperation.TheVariants as operation
use Rattle.api_json.specs.Readers as reader
use Rattle.broker_model.specs.Traits.{Fate, Traits, by_accessor, by_text, itself, make, names_needed, orphan, plain}
use Rattle.broker_model.specs.Traits.{renew, revoke, stay}
use Rattle.broker_model.specs.declared.commands.Needs.{Needs}
use Rattle.broker_model.specs.declared.commands.Needs.TheVariants as needs
use Rattle.broker_model.specs.declared.commands.TokenCommand.{TokenCommand}
use Rattle.broker_model.specs.declared.commands.TokenCommand.TheVariants as command
use Rattle.broker_model.specs.declared.making.Making.TheVariants.{OfCaller, WithoutParent}
use Rattle.broker_model.specs.parts.Bodies.{read_as, read_none}

-- what an operation means, by the body; only what POST and PUT ask for looks at the body
abbrev pub token_command : TokenOperation → List ℕ → Result TokenCommand Refusal
token_command operation.Create body = read_as reader.token_creation (command.Create OfCaller) body
token_command operation.CreateOrphan body = read_as reader.token_creation (command.Create WithoutParent) body
token_command operation.LookUp body = read_as reader.token command.LookUp body
token_command operation.LookUpSelf body = Ok command.LookUpSelf
token_command operation.LookUpAccessor body = read_as reader.accessor command.LookUpAccessor body
token_command operation.Renew body = read_as reader.token_renewal command.Renew body
token_command operation.RenewSelf body = read_as reader.increment command.RenewSelf body
token_command operation.Revoke body = read_as reader.token command.Revoke body
token_command operation.RevokeOrphan body = read_as reader.token command.RevokeOrphan body
token_command operation.RevokeSelf body = read_none command.RevokeSelf body
token_command operation.RevokeAccessor body = read_as reader.accessor command.RevokeAccessor body
token_command operation.ListAccessors body = Ok command.ListAccessors

-- which identifiers a command needs: a creation needs those of a token
abbrev pub token_needs : TokenCommand → Needs
token_needs (command.Create making asked) = needs.Token
token_needs _ = needs.Nothing

-- tokens with their accessors, and the identifiers that were given out
abbrev pub of_made : Part
of_made k = of_tokens k || of_used k

-- tokens with all that goes with them, and responses that wait
abbrev pub of_ended : Part
of_ended k = of_tokens_and_theirs k || of_waiting k

-- which rows a command may change
abbrev pub token_changes : TokenCommand → Option Part
token_changes (command.Create making asked) = Some of_made
token_changes (command.Renew asked) = Some of_tokens
token_changes (command.RenewSelf increment) = Some of_tokens
token_changes (command.Revoke t) = Some of_ended
token_changes (command.RevokeOrphan t) = Some of_ended
token_changes (command.RevokeAccessor accessor) = Some of_ended
token_changes command.RevokeSelf = Some of_ended
token_changes _ = None

-- what becomes of tokens
abbrev pub token_fate : TokenCommand → Fate
token_fate (command.Create making asked) = make making asked
token_fate (command.Renew asked) = renew (by_text asked.token) asked.increment
token_fate (command.RenewSelf increment) = renew itself increment
token_fate (command.Revoke t) = revoke (by_text t)
token_fate (command.RevokeOrphan t) = orphan t
token_fate (command.RevokeAccessor accessor) = revoke (by_accessor accessor)
token_fate command.RevokeSelf = revoke itself
token_fate _ = stay

abbrev pub token_traits : TokenCommand → Traits
token_traits command =
    record plain {
      own = names_needed (token_needs command);
      changes = token_changes command;
      fate = token_fate command;
    }
