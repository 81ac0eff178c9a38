-- What the routes under `sys/wrapping/` mean: which command a body is, which wrapping token is meant, what each command
-- needs, and which requests are open (Vault's documentation, "/sys/wrapping").
use Rattle.std.specs.Prelude.{◌||◌, ◌∷◌, ℕ, List, [], Bool, true, false, Option, Some, None, Result, Ok, Err}
use Rattle.records.specs.Words.{option_map_or, Text, same, ◌>>=◌, Verb, Refusal, Part, of_used, of_waiting}
use Rattle.serde_json.specs.Data.{object}
use Rattle.serde_json.specs.Written.{compact_text}
use Rattle.mounts.specs.Words.{operation_at, facts}
use Rattle.mounts.specs.declared.operation.Opens.{Opens}
use Rattle.mounts.specs.declared.operation.Opens.TheVariants.{Never, Always, WithItsOwn}
use Rattle.mounts.specs.declared.operation.WrappingOperation.{WrappingOperation}
use Rattle.mounts.specs.declared.operation.WrappingOperation.TheVariants as operation
use Rattle.api_json.specs.Words.{body_members}
use Rattle.api_json.specs.Readers as reader
use Rattle.broker_model.specs.Traits.{Traits, names_needed, plain}
use Rattle.broker_model.specs.declared.commands.Needs.{Needs}
use Rattle.broker_model.specs.declared.commands.Needs.TheVariants as needs
use Rattle.broker_model.specs.declared.commands.WrappingCommand.{WrappingCommand}
use Rattle.broker_model.specs.declared.commands.WrappingCommand.TheVariants as command
use Rattle.broker_model.specs.parts.Bodies.{read_as}

-- ---- commands

-- POST and PUT of `sys/wrapping/wrap`: any object, without members too
abbrev pub wrap_meant : List ℕ → Result WrappingCommand Refusal
wrap_meant body = do
  members ← body_members body
  Ok (command.Wrap (compact_text (object members)))

-- the wrapping token that is meant: that which the body names, else the client token; an empty text names none
abbrev pub token_meant : Option Text → Option Text → Option Text
token_meant client None = client
token_meant client (Some []) = client
token_meant client (Some (c ∷ t)) = Some (c ∷ t)

-- the command on the wrapping token that is meant
abbrev pub on_token_meant : (Option Text → WrappingCommand) → Option Text → List ℕ → Result WrappingCommand Refusal
on_token_meant command client body = read_as reader.wrapping_token (λ named. command (token_meant client named)) body

-- POST and PUT of `sys/wrapping/lookup`, of `sys/wrapping/rewrap` and of `sys/wrapping/unwrap`
abbrev pub look_up_meant : Option Text → List ℕ → Result WrappingCommand Refusal
look_up_meant = on_token_meant command.LookUp

abbrev pub rewrap_meant : Option Text → List ℕ → Result WrappingCommand Refusal
rewrap_meant = on_token_meant command.Rewrap

abbrev pub unwrap_meant : Option Text → List ℕ → Result WrappingCommand Refusal
unwrap_meant = on_token_meant command.Unwrap

-- the command that an operation on responses means, from this client token and this body
abbrev pub wrapping_command : WrappingOperation → Option Text → List ℕ → Result WrappingCommand Refusal
wrapping_command operation.Wrap client body = wrap_meant body
wrapping_command operation.LookUp client body = look_up_meant client body
wrapping_command operation.Rewrap client body = rewrap_meant client body
wrapping_command operation.Unwrap client body = unwrap_meant client body

-- ---- what commands need

-- which identifiers a command needs: a rewrap needs those of a new wrapping token
abbrev pub wrapping_needs : WrappingCommand → Needs
wrapping_needs (command.Rewrap t) = needs.WrappingToken
wrapping_needs _ = needs.Nothing

-- whether a command is a wrap: the reply to it is wrapped, and must be; the others have no wrap TTL, whatever the
-- request says
abbrev pub is_wrap : WrappingCommand → Bool
is_wrap (command.Wrap text) = true
is_wrap _ = false

-- responses that wait, and the identifiers that were given out
abbrev pub of_moved : Part
of_moved k = of_waiting k || of_used k

-- which rows a command may change
abbrev pub wrapping_changes : WrappingCommand → Option Part
wrapping_changes (command.Rewrap t) = Some of_moved
wrapping_changes (command.Unwrap t) = Some of_waiting
wrapping_changes _ = None

abbrev pub wrapping_traits : WrappingCommand → Traits
wrapping_traits command =
    record plain {
      own = names_needed (wrapping_needs command);
      may_wrap = is_wrap command;
      must_wrap = is_wrap command;
      changes = wrapping_changes command;
    }

-- ---- open requests

-- whether the client token itself is meant: the body names no other
abbrev pub is_own : Option Text → Option Text → Bool
is_own client None = true
is_own client (Some []) = true
is_own client (Some (c ∷ t)) = option_map_or (same (c ∷ t)) client false

-- the same of what a body names; one that cannot be read names no token
abbrev pub is_own_if_read : Option Text → Result (Option Text) Refusal → Bool
is_own_if_read client (Ok named) = is_own client named
is_own_if_read client (Err r) = false

-- the token that a body names, if the body can be read
abbrev pub token_named : List ℕ → Result (Option Text) Refusal
token_named body = read_as reader.wrapping_token (λ named. named) body

-- whether a request needs no caller, by what its operation says
abbrev pub opened_by : Opens → Option Text → List ℕ → Bool
opened_by Never client body = false
opened_by Always client body = true
opened_by WithItsOwn client body = is_own_if_read client (token_named body)

-- whether the operation of a verb at a path needs no caller; without an operation there a caller is needed
abbrev pub opening : Verb → Text → Opens
opening v path = option_map_or (λ o. (facts o).opens) (operation_at v path) Never

-- whether a request needs no caller; the wrap TTL plays no part
abbrev pub opens : Verb → Text → Option Text → List ℕ → Bool
opens v path client body = opened_by (opening v path) client body
