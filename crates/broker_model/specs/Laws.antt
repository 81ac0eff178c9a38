-- Laws of operations, of the wrapping of replies, and of routes, as statements (this project's definition; Vault's
-- documentation, "Response wrapping").
use Rattle.std.specs.Prelude.{◌≡◌, ◌≢◌, ◌⊎◌, ◌++◌, ◌∷◌, ℕ, List, [], true, false, Option, Some, Ok, Err, codes}
use Rattle.records.specs.Words.{Text, get, Broker, Mount, Waiting, Evolves, IsNew, IsTakenOut, OriginIsGone}
use Rattle.records.specs.Words.{WaitedBefore, Names, names_of, Done, kept_text, Forms, Sound, SoundIdentifiers}
use Rattle.records.specs.Words.{SoundWaiting, IsIdentifier, IsSoundWaiting, token_text, are_new, Verb, Reply, Methods}
use Rattle.records.specs.Words.{Words, Table}
use Rattle.broker_types.specs.declared.ask.Verb.TheVariants as verb
use Rattle.broker_types.specs.declared.refusal.Refusal.TheVariants as refusal
use Rattle.mounts.specs.Words.{are_bytes, IsKnownAt, Route, cut, route_at}
use Rattle.mounts.specs.declared.operation.CubbyholeOperation.{CubbyholeOperation}
use Rattle.mounts.specs.declared.operation.CubbyholeOperation.TheVariants as operations
use Rattle.mounts.specs.declared.operation.Operation.TheVariants.{Cubbyholes}
use Rattle.wrapping.specs.Words.{AddsNone, moved}
use Rattle.broker_model.specs.Act.{act}
use Rattle.broker_model.specs.Command.{Command}
use Rattle.broker_model.specs.Effects.{Does}
use Rattle.broker_model.specs.Order.{IsProper, counted, kept_entry, wrap}
use Rattle.broker_model.specs.Step.{traits}
use Rattle.broker_model.specs.Traits.{wrapping_names}
use Rattle.broker_model.specs.declared.commands.WrappingCommand.{WrappingCommand}
use Rattle.broker_model.specs.declared.commands.WrappingCommand.TheVariants as command
use Rattle.broker_model.specs.parts.WrappingCommands.{token_meant, is_own, wrapping_traits}
use Rattle.broker_model.specs.parts.Wrappings.{act_on_wrappings}

-- ---- operations

-- each operation leaves what its traits tell
abbrev pub OperationsDoAsTold : Type 0
OperationsDoAsTold =
    (b : Broker) (caller : Option Text) (words : Words) (command : Command) (d : Done)
    → act b caller (names_of words) command ≡ Ok d → Does b caller (names_of words) command d

-- each operation gives out its own identifiers alone, and lets the broker evolve
abbrev pub OperationsAreProper : Type 0
OperationsAreProper =
    (b : Broker) (caller : Option Text) (words : Words) (command : Command) (d : Done)
    → are_new b.used ((traits command).own (names_of words)) ≡ true → act b caller (names_of words) command ≡ Ok d
    → IsProper b ((traits command).own (names_of words)) d

-- the names of a new wrapping token and of its accessor are identifiers
pub record AreWrappingNames (names : Names) : Type 0 where
  pub token : IsIdentifier names.wrapping_token
  pub accessor : IsIdentifier names.wrapping_accessor

-- ---- commands on responses that wait

-- each command gives out its own identifiers alone, and lets the broker evolve
abbrev pub WrappingCommandsAreProper : Type 0
WrappingCommandsAreProper =
    (b : Broker) (names : Names) (command : WrappingCommand) (d : Done)
    → are_new b.used ((wrapping_traits command).own names) ≡ true → act_on_wrappings b names command ≡ Ok d
    → IsProper b ((wrapping_traits command).own names) d

-- each command leaves a sound broker sound, once its identifiers are marked, whoever may have spent its last use
abbrev pub WrappingCommandsKeepSoundness : Type 0
WrappingCommandsKeepSoundness =
    (forms : Forms) (who : Option Text) (b : Broker) (names : Names) (command : WrappingCommand) (d : Done)
    → Sound forms who b → AreWrappingNames names → are_new b.used ((wrapping_traits command).own names) ≡ true
    → act_on_wrappings b names command ≡ Ok d → Sound forms who (counted d)

-- A response that is wrapped anew waits under the new wrapping token, which was made at the clock, with its path, its
-- length of time, its origin and its text. The old wrapping token is taken out.
abbrev pub RewrapMoves : Type 0
RewrapMoves =
    (b : Broker) (names : Names) (t : Text) (w : Waiting) (d : Done)
    → SoundIdentifiers b → are_new b.used (wrapping_names names) ≡ true → get b.waiting t ≡ Some w
    → act_on_wrappings b names (command.Rewrap (Some t)) ≡ Ok d
    → (get d.next.waiting (token_text names.wrapping_token) ≡ Some (moved names.wrapping_accessor b.clock w))
    × IsTakenOut d.next t

-- the text of a response that is unwrapped is the answer; its wrapping token is taken out, and its origin is gone
abbrev pub UnwrapTakesOut : Type 0
UnwrapTakesOut =
    (b : Broker) (names : Names) (t : Text) (w : Waiting) (d : Done)
    → SoundIdentifiers b → SoundWaiting b.waiting → get b.waiting t ≡ Some w
    → act_on_wrappings b names (command.Unwrap (Some t)) ≡ Ok d
    → (d.answered ≡ kept_text w.reply) × IsTakenOut d.next t × OriginIsGone d.next w.origin

-- a wrap changes nothing: only the order of a request makes its response wait
abbrev pub WrapChangesNothing : Type 0
WrapChangesNothing =
    (b : Broker) (names : Names) (text : Text) (d : Done)
    → act_on_wrappings b names (command.Wrap text) ≡ Ok d → d.next ≡ b

-- nor does a look-up
abbrev pub LookUpChangesNothing : Type 0
LookUpChangesNothing =
    (b : Broker) (names : Names) (meant : Option Text) (d : Done)
    → act_on_wrappings b names (command.LookUp meant) ≡ Ok d → d.next ≡ b

-- the wrapping token that an open unwrap or rewrap means is the client token
abbrev pub OwnIsMeant : Type 0
OwnIsMeant = (client named : Option Text) → is_own client named ≡ true → token_meant client named ≡ client

-- ---- the wrapping of a reply

-- After an operation that gave out its own identifiers or none, the reply is kept: the broker is sound still, once all
-- identifiers are marked.
abbrev pub WrappingKeepsSoundness : Type 0
WrappingKeepsSoundness =
    (forms : Forms) (who : Option Text) (b : Broker) (path : Text) (ttl : ℕ) (names : Names) (own : List Text)
    (d : Done) (r : Reply) (made : Option Text)
    → are_new b.used (names.wrapping_token ∷ names.wrapping_accessor ∷ own) ≡ true → d.next.used ≡ b.used
    → (d.taken ≡ []) ⊎ (d.taken ≡ own)
    → IsSoundWaiting (token_text names.wrapping_token) (kept_entry b path ttl names r)
    → Sound forms who (counted d) → Sound forms who (counted (wrap b path ttl names d r made).done)

-- and it evolves
abbrev pub WrappingEvolves : Type 0
WrappingEvolves =
    (b : Broker) (path : Text) (ttl : ℕ) (names : Names) (d : Done) (r : Reply) (made : Option Text)
    → IsNew b names.wrapping_token → d.next.used ≡ b.used → Evolves b d.next
    → Evolves b (wrap b path ttl names d r made).done.next

-- After an operation that makes no response begin to wait, the kept reply is the only one that does.
abbrev pub WrappingAddsOne : Type 0
WrappingAddsOne =
    (b : Broker) (path : Text) (ttl : ℕ) (names : Names) (d : Done) (r : Reply) (made : Option Text) (t : Text)
    (w : Waiting) → AddsNone b d.next → get (wrap b path ttl names d r made).done.next.waiting t ≡ Some w
    → WaitedBefore b w ⊎ ((t ≡ token_text names.wrapping_token) × (w ≡ kept_entry b path ttl names r))

-- ---- routes

-- the route to an operation on the caller's cubbyhole
abbrev pub cubbyhole_route : CubbyholeOperation → Text → Route
cubbyhole_route operation path =
    record { operation = Cubbyholes operation; mount = codes "cubbyhole"; parameter = path }

-- LIST, and no other method
abbrev pub list_alone : Methods
list_alone = record { get = false; list = true; write = false; delete = false }

-- whatever mounts there are, the verb means the operation at each path below `cubbyhole/`, if the path is of bytes
abbrev pub MeansBelowCubbyhole : Verb → CubbyholeOperation → Type 0
MeansBelowCubbyhole verb operation =
    (o : Option Mount) (b : ℕ) (path : Text) → are_bytes (b ∷ path) ≡ true
    → route_at o verb (codes "cubbyhole/" ++ b ∷ path) ≡ Ok (cubbyhole_route operation (b ∷ path))

-- and a list of `cubbyhole` itself is one of the whole cubbyhole, of which no path is a part
abbrev pub ListsTheWhole : Type 0
ListsTheWhole =
    (o : Option Mount) → route_at o verb.List (codes "cubbyhole") ≡ Ok (cubbyhole_route operations.List [])

-- any other verb is 405 there, and LIST alone is allowed
abbrev pub AllowsListAlone : Type 0
AllowsListAlone =
    (o : Option Mount) (v : Verb) → v ≢ verb.List
    → route_at o v (codes "cubbyhole") ≡ Err (refusal.MethodNotAllowed list_alone)

-- the first segment of a path below `cubbyhole/` names a mount that is always there, whatever the rows are
abbrev pub IsAlwaysThere : Type 0
IsAlwaysThere =
    (rows : Table) (o : Option Mount) (path : Text) → IsKnownAt rows (cut (codes "cubbyhole/" ++ path)).0 o
