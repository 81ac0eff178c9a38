-- The row that a line is (this project's export format): one JSON object (RFC 8259) in its compact text. A row in its
-- format has the members `due`, `fields`, `format`, `key`, `kind` and `owner`. Any other has `damaged`, which is its
-- body in hexadecimal digits, in place of `fields` and `format`.
use Rattle.std.specs.Prelude.{◌∷◌, ◌^◌, ◌==◌, if◌then◌else◌, ℕ, nat_lt, List, [], codes, Option, Some, None}
use Rattle.std.specs.Prelude.{option_map, option_and_then, Result, Ok, Err}
use Rattle.broker_types.specs.Words.{Text, same}
use Rattle.records.specs.Words.{RowKey}
use Rattle.records.specs.declared.kind.Kind.{Kind}
use Rattle.records.specs.declared.row.Row.{Row}
use Rattle.hex.specs.Hex.{decode_of, encode_lower}
use Rattle.hex.specs.declared.error.FromHexError.{FromHexError}
use Rattle.serde_json.specs.Data.{Data, null, number, unsigned, string, Members, put}
use Rattle.serde_json.specs.Find.{as_str, as_object, get_member}
use Rattle.serde_json.specs.Written.{compact_text}
use Rattle.api_json.specs.Json.{tree}
use Rattle.row_lines.specs.KindWords.{kind_of, kind_word}
use Rattle.row_lines.specs.Layouts.{layout}
use Rattle.row_lines.specs.Spelled.{as_whole, count_members, onto, spelled_body}

-- the text at a name
abbrev pub text_at : Text → Members → Option Text
text_at name ms = option_and_then as_str (get_member name ms)

-- `null` if a row does not end by itself, or seconds since 1970, below 2^63
abbrev pub due_of : Data → Option (Option ℕ)
due_of null = Some None
due_of d = option_and_then (λ n. if nat_lt n (2 ^ 63) then Some (Some n) else None) (as_whole d)

-- the body whose fields are there
abbrev pub fields_body : Kind → Members → Option (List ℕ)
fields_body kind ms =
    option_and_then
    (λ format. option_and_then
    (λ fields. option_and_then (λ fs. onto (format ∷ []) (spelled_body fields fs)) (layout kind format))
    (option_and_then as_object (get_member (codes "fields") ms)))
    (option_and_then as_whole (get_member (codes "format") ms))

-- the bytes, if lower-case digits are theirs
abbrev pub exactly : Text → Result (List ℕ) FromHexError → Option (List ℕ)
exactly digits (Ok bytes) = if same (encode_lower bytes) digits then Some bytes else None
exactly digits (Err e) = None

-- the body that is there in digits
abbrev pub damaged_body : Members → Option (List ℕ)
damaged_body ms = option_and_then (λ digits. exactly digits (decode_of digits)) (text_at (codes "damaged") ms)

-- the body: of six members two are its fields and its format, of five one is its digits
abbrev pub body_of : Kind → Members → Option (List ℕ)
body_of kind ms =
    if count_members ms == 6 then fields_body kind ms
    else if count_members ms == 5 then damaged_body ms
    else None

-- what is kept, with its body
abbrev pub kept : Kind → Text → Text → Option ℕ → List ℕ → RowKey × Row
kept kind key owner due body = ((kind, key), record { owner = owner; due = due; body = body })

-- the row of an object
abbrev pub row_of : Members → Option (RowKey × Row)
row_of ms =
    option_and_then
    (λ kind. option_and_then
    (λ key. option_and_then
    (λ owner. option_and_then
    (λ due. option_map (kept kind key owner due) (body_of kind ms))
    (option_and_then due_of (get_member (codes "due") ms)))
    (text_at (codes "owner") ms))
    (text_at (codes "key") ms))
    (option_and_then kind_of (text_at (codes "kind") ms))

-- the row of a line, which is without its line feed
abbrev pub row_in : Text → Option (RowKey × Row)
row_in line =
    option_and_then
    (λ d. if same (compact_text d) line then option_and_then row_of (as_object d) else None)
    (tree line)

-- when a row is due, as a value
abbrev pub due_data : Option ℕ → Data
due_data None = null
due_data (Some n) = number (unsigned n)

-- the members of the body, with those that each line has
abbrev pub framed : RowKey × Row → Members → Members
framed e ms =
    put (codes "owner") (string e.1.owner)
    (put (codes "kind") (string (kind_word e.0.0))
    (put (codes "key") (string e.0.1)
    (put (codes "due") (due_data e.1.due) ms)))
