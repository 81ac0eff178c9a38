-- Objects and arrays as compact JSON text (RFC 8259, sections 4, 5 and 7), of parts that are JSON texts already.
use Rattle.std.specs.Prelude.{◌==◌, ◌∷◌, ◌++◌, if◌then◌else◌, ℕ, List, [], length, map, fold, Bool, true, false, Option}
use Rattle.broker_types.specs.Words.{Some, None, codes, decimal, unwrap_or, insert_entry, Text, text_cmp, time_text}
use Rattle.serde_json.specs.Data.{string}
use Rattle.serde_json.specs.Written.{compact_text}

-- a text as JSON
unfoldable pub quoted : Text → Text
quoted t = compact_text (string t)

-- what is written after an opening bracket, with a comma before it if something is there already
unfoldable pub with_item : Text → Text → Text
with_item begun v = begun ++ (if length begun == 1 then [] else 44 ∷ []) ++ v

-- a name and its value
unfoldable pub with_member : Text → Text × Text → Text
with_member begun m = with_item begun (quoted m.0 ++ 58 ∷ m.1)

-- an object of these members, in this order
abbrev pub object_of : List (Text × Text) → Text
object_of ms = fold with_member (123 ∷ []) ms ++ 125 ∷ []

-- an array of these texts
abbrev pub array_of : List Text → Text
array_of vs = fold with_item (91 ∷ []) vs ++ 93 ∷ []

-- `null`
unfoldable pub null_text : Text
null_text = codes "null"

-- a whole number
unfoldable pub whole_number : ℕ → Text
whole_number n = decimal n

-- `true` or `false`
unfoldable pub bool_text : Bool → Text
bool_text true = codes "true"
bool_text false = codes "false"

-- a JSON text, and `null` if there is none
unfoldable pub or_null : Option Text → Text
or_null o = unwrap_or o null_text

-- a time (RFC 3339)
unfoldable pub time : ℕ → Text
time n = quoted (time_text n)

-- a time, or another JSON text
unfoldable pub time_or : Text → Option ℕ → Text
time_or other None = other
time_or other (Some n) = time n

-- an array of texts
unfoldable pub texts : List Text → Text
texts ts = array_of (map quoted ts)

-- a name, and its text as JSON
abbrev pub quoted_pair : Text × Text → Text × Text
quoted_pair e = (e.0, quoted e.1)

-- an object of texts, and `null` if there is none
unfoldable pub pairs : List (Text × Text) → Text
pairs es = if length es == 0 then null_text else object_of (map quoted_pair es)

-- ---- objects whose names are not known beforehand

-- the members with one more, by name
unfoldable pub with_entry : List (Text × Text) → Text × Text → List (Text × Text)
with_entry es e = insert_entry text_cmp es e.0 e.1

-- members by name, in the order of the bytes of their names; of two of one name the last counts
abbrev pub by_name : List (Text × Text) → List (Text × Text)
by_name es = fold with_entry [] es
