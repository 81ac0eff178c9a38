-- Objects as compact JSON text (RFC 8259, section 4), of parts that are JSON texts already.
use Rattle.std.specs.Prelude.{◌==◌, ◌∷◌, ◌++◌, if◌then◌else◌, ℕ, List, [], length, fold, codes, decimal, Bool, true}
use Rattle.std.specs.Prelude.{false, Option, Some, None}
use Rattle.serde_json.specs.Data.{string}
use Rattle.serde_json.specs.Written.{compact_text}
use Rattle.broker_types.specs.Time.{time_text}
use Rattle.status.specs.Samples.{Text}

-- a text as JSON
unfoldable pub quoted : Text → Text
quoted t = compact_text (string t)

-- an object that is begun, with one more member: its name and its value, after a comma unless it is the first
unfoldable pub with_member : Text → Text × Text → Text
with_member begun m = begun ++ (if length begun == 1 then [] else 44 ∷ []) ++ quoted m.0 ++ codes ":" ++ m.1

-- an object of these members, in this order, and a line feed
abbrev pub object_line : List (Text × Text) → Text
object_line ms = fold with_member (123 ∷ []) ms ++ 125 ∷ 10 ∷ []

-- a whole number
unfoldable pub whole_number : ℕ → Text
whole_number n = decimal n

-- `true` or `false`
unfoldable pub bool_text : Bool → Text
bool_text true = codes "true"
bool_text false = codes "false"

-- a whole number, and `null` if there is none
unfoldable pub number_or_null : Option ℕ → Text
number_or_null None = codes "null"
number_or_null (Some n) = whole_number n

-- a time (RFC 3339)
unfoldable pub time : ℕ → Text
time n = quoted (time_text n)
