-- The member of a reply that is asked for, as it is printed (this project's definition).
use Rattle.std.proofs.Common.{◌≡◌, ◌==◌, ◌++◌, ◌∷◌, if◌then◌else◌, ℕ, List, [], codes, fold, Bool, false, IsUtf8}
use Rattle.std.proofs.Common.{Option, Some, None, MatchOption, IsSomeAnd, option_and_then}
use Rattle.serde_json.specs.Written.{compact_text, has_float, IsInOrder}
use Rattle.serde_json.specs.Find.{get, as_str}
use Rattle.serde_json.specs.Data.{Data}
use Rattle.serde_json.specs.Read.{read}
use Rattle.broker_types.specs.Words.{option_or, list_any, slice_split, Text}
use Rattle.api_client.specs.declared.field.Field.TheVariants.{Found, Missing, NoJson}
use Rattle.api_client.specs.declared.field.Field.{Field}

-- ---- where a name is looked for

-- the member of a value, if it is there and has it
abbrev pub member_in : Option Data → Text → Option Data
member_in o name = option_and_then (get name) o

-- the byte `.`
abbrev pub is_dot : ℕ → Bool
is_dot c = c == 46

-- what a path leads to, whose parts have dots between them
unfoldable pub at_path : Text → Data → Option Data
at_path path reply = fold member_in (Some reply) (slice_split is_dot path)

-- where a name is looked for: in `data.data`, `data`, `auth`, `wrap_info` and the reply itself, in this order
abbrev pub places : Data → List (Option Data)
places reply =
    member_in (get (codes "data") reply) (codes "data") ∷ get (codes "data") reply ∷ get (codes "auth") reply
    ∷ get (codes "wrap_info") reply ∷ Some reply ∷ []

-- the member of the first place that has it
abbrev pub first_in : Text → List (Option Data) → Option Data
first_in name [] = None
first_in name (place ∷ rest) = option_or (member_in place name) (first_in name rest)

-- the value of a name: what it leads to if it is a path with dots, else the member of this name
unfoldable pub value_of : Text → Data → Option Data
value_of name reply =
    option_or (if list_any is_dot name then at_path name reply else None) (first_in name (places reply))

-- ---- what is printed

-- A text is printed as it is, and any other value as compact JSON. Which digits a float has is not said.
abbrev pub IsPrinted : Data → Text → Type 0
IsPrinted d text =
    MatchOption (as_str d) ((has_float d ≡ false → text ≡ compact_text d) × IsInOrder text d) (λ s. text ≡ s)

-- the same with LF
abbrev pub IsLine : Data → Text → Type 0
IsLine d line = (text : Text) × (line ≡ text ++ 10 ∷ []) × IsPrinted d text

-- the bytes are this JSON value (RFC 8259)
abbrev pub IsJson : List ℕ → Data → Type 0
IsJson body d = IsUtf8 body × (read body ≡ Some d)

-- what is found of a name in the body of a reply
abbrev pub IsField : List ℕ → Text → Field → Type 0
IsField body name (Found line) = (d : Data) × IsJson body d × IsSomeAnd (value_of name d) (λ value. IsLine value line)
IsField body name Missing = (d : Data) × IsJson body d × (value_of name d ≡ None)
IsField body name NoJson = (d : Data) → ¬ (IsJson body d)
