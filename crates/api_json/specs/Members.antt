-- The members of a body by name: null is absent, and a member of another kind is refused (this profile's readings).
use Rattle.broker_types.specs.Words.{Option, Some, None, Result, Ok, codes, option_and_then, field_name, ◌>>=◌, some_or}
use Rattle.broker_types.specs.Words.{Text}
use Rattle.serde_json.specs.Data.{Data, null, Members}
use Rattle.serde_json.specs.Find.{get_member}
use Rattle.broker_types.specs.declared.refusal.Refusal.{Refusal}
use Rattle.broker_types.specs.declared.refusal.Refusal.TheVariants as refusal
use Rattle.broker_types.specs.declared.refusal.Reason.TheVariants as reason
use Rattle.broker_types.specs.declared.refusal.Field.{Field}
use Rattle.api_json.specs.Kinds.{as_object_text}

-- `invalid field: NAME`
abbrev pub invalid : Field → Refusal
invalid f = refusal.BadRequest (reason.InvalidField f)

-- `missing field: NAME`
abbrev pub missing : Field → Refusal
missing f = refusal.BadRequest (reason.MissingField f)

-- the value, unless it is null
abbrev pub not_null : Data → Option Data
not_null null = None
not_null d = Some d

-- a member that is there and is not null
abbrev pub given : Option Data → Option Data
given None = None
given (Some d) = not_null d

-- nothing, a value of the kind, or 400 `invalid field: NAME`
abbrev pub of_kind : {X : Type 0} → (Data → Option X) → Field → Option Data → Result (Option X) Refusal
of_kind kind f None = Ok None
of_kind kind f (Some d) = do
  x ← some_or (invalid f) (kind d)
  Ok (Some x)

-- a member that may be absent
unfoldable pub optional : {X : Type 0} → (Data → Option X) → Field → Members → Result (Option X) Refusal
optional kind f ms = of_kind kind f (given (get_member (field_name f) ms))

-- a member that must be there
abbrev pub required : {X : Type 0} → (Data → Option X) → Field → Members → Result X Refusal
required kind f ms = do
  x ← optional kind f ms
  some_or (missing f) x

-- a member of an object that is itself a member
abbrev pub within : {X : Type 0} → (Members → Result (Option X) Refusal) → Option Members → Result (Option X) Refusal
within read None = Ok None
within read (Some ms) = read ms

-- the object that is written as a secret, as its compact text
unfoldable pub payload : Members → Option Text
payload ms = option_and_then as_object_text (get_member (codes "data") ms)
