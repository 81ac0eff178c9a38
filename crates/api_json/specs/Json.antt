-- The JSON values and objects that bytes are (RFC 8259).
use Rattle.std.specs.Prelude.{◌∷◌, if◌then◌else◌, ℕ, List, [], Bool, true, false, Option, Some, None, Result}
use Rattle.broker_types.specs.Words.{option_and_then, is_utf8, some_or}
use Rattle.serde_json.specs.Data.{Data, null, Members, no_members, member}
use Rattle.serde_json.specs.Find.{as_object}
use Rattle.serde_json.specs.Read.{read}
use Rattle.serde_json.specs.Written.{has_float}
use Rattle.broker_types.specs.declared.refusal.Refusal.{Refusal}
use Rattle.broker_types.specs.declared.refusal.Refusal.TheVariants as refusal
use Rattle.broker_types.specs.declared.refusal.Reason.TheVariants as reason

-- the value that bytes are: UTF-8, and JSON of at most 127 levels (RFC 8259, sections 2, 8.1 and 9)
abbrev pub json_value : List ℕ → Option Data
json_value bytes = if is_utf8 bytes then read bytes else None

-- Floats are not taken (this project's choice): numbers with a fraction or an exponent, `-0`, and whole numbers that 64
-- bits do not hold.
abbrev pub without_floats : Data → Option Data
without_floats d = if has_float d then None else Some d

-- the value without floats that bytes are
abbrev pub tree : List ℕ → Option Data
tree bytes = option_and_then without_floats (json_value bytes)

-- the members of an object (RFC 8259, section 4); `null` is an empty object (this project's)
abbrev pub members_in : Data → Option Members
members_in null = Some no_members
members_in d = as_object d

-- the object that a body is (Vault's documentation, "HTTP API"); no bytes are an empty one (this project's)
abbrev pub read_body : List ℕ → Option Members
read_body [] = Some no_members
read_body (x ∷ xs) = option_and_then members_in (tree (x ∷ xs))

-- 400 `failed to parse JSON input`
abbrev pub no_object : Refusal
no_object = refusal.BadRequest reason.InvalidJson

-- the members of a body, or the refusal
abbrev pub body_members : List ℕ → Result Members Refusal
body_members body = some_or no_object (read_body body)

-- whether there is a member
abbrev pub has_members : Members → Bool
has_members no_members = false
has_members (member k d ms) = true
