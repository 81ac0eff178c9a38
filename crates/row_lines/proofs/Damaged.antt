-- A line that has a body in digits is read as its row.
use Rattle.std.proofs.Common.{◌≡◌, ◌<◌, ◌^◌, arith, List, ℕ, IfSome, nat_lt, codes}
use Rattle.std.proofs.Common.{refl, sym, Ok, Some, None, Option, true, false}
use Rattle.broker_types.specs.Words.{is_utf8, Text, same}
use Rattle.records.specs.Words.{RowKey, same_self}
use Rattle.records.specs.declared.kind.Kind.{Kind}
use Rattle.records.specs.declared.kind.Kind.TheVariants as kind
use Rattle.records.specs.declared.row.Row.{Row}
use Rattle.hex.specs.Hex.{decode_of, encode_lower}
use Rattle.serde_json.specs.Data.{Data, string, object, Members, no_members, put, depth}
use Rattle.serde_json.specs.Read.{read}
use Rattle.serde_json.specs.Written.{compact_text, has_float}
use Rattle.api_json.specs.Json.{tree}
use Rattle.row_lines.specs.KindWords.{kind_of, kind_word}
use Rattle.row_lines.specs.Lines.{exactly, due_of, due_data, framed, row_of, row_in}

-- the word of a kind is that of no other
pub kind_of_word : (k : Kind) → kind_of (kind_word k) ≡ Some k
unfolding same
kind_of_word kind.Clock = refl
kind_of_word kind.Used = refl
kind_of_word kind.Token = refl
kind_of_word kind.Accessor = refl
kind_of_word kind.Cubby = refl
kind_of_word kind.Lease = refl
kind_of_word kind.Credential = refl
kind_of_word kind.KvKey = refl
kind_of_word kind.KvVersion = refl
kind_of_word kind.Waiting = refl
kind_of_word kind.Mount = refl
kind_of_word kind.Policy = refl
kind_of_word kind.Role = refl

-- a moment below 2^63, or none
abbrev pub IsDue : Option ℕ → Type 0
IsDue due = IfSome due (λ n. n < 2 ^ 63)

-- what is due is read back
pub due_of_data : (due : Option ℕ) → IsDue due → due_of (due_data due) ≡ Some due
due_of_data None fits = refl
due_of_data (Some n) fits = let below : nat_lt n (2 ^ 63) ≡ true = grind (arith) in rw below refl

-- digits are read back
pub digits_read : (bytes : List ℕ) → decode_of (encode_lower bytes) ≡ Ok bytes
    → exactly (encode_lower bytes) (decode_of (encode_lower bytes)) ≡ Some bytes
digits_read bytes decodes = rw (decodes, same_self (encode_lower bytes)) refl

-- the members of the line
abbrev pub damaged_members : RowKey × Row → Members
damaged_members e = framed e (put (codes "damaged") (string (encode_lower e.1.body)) no_members)

-- they are those of the row
pub row_of_damaged : (e : RowKey × Row) → IsDue e.1.due → decode_of (encode_lower e.1.body) ≡ Ok e.1.body
    → row_of (damaged_members e) ≡ Some e
row_of_damaged e fits decodes =
    rw (kind_of_word e.0.0, due_of_data e.1.due fits, digits_read e.1.body decodes) refl

-- a value of what is due has no float, and does not nest
pub due_no_float : (due : Option ℕ) → has_float (due_data due) ≡ false
due_no_float None = refl
due_no_float (Some n) = refl

pub due_flat : (due : Option ℕ) → depth (due_data due) ≡ 0
due_flat None = refl
due_flat (Some n) = refl

pub damaged_no_float : (e : RowKey × Row) → has_float (object (damaged_members e)) ≡ false
damaged_no_float e = rw (due_no_float e.1.due) refl

pub damaged_flat : (e : RowKey × Row) → depth (object (damaged_members e)) ≡ 1
damaged_flat e = rw (due_flat e.1.due) refl

-- the text of the line is read as the row
pub damaged_reads : (e : RowKey × Row) (line : Text) → IsDue e.1.due
    → decode_of (encode_lower e.1.body) ≡ Ok e.1.body → is_utf8 line ≡ true
    → read line ≡ Some (object (damaged_members e)) → line ≡ compact_text (object (damaged_members e))
    → row_in line ≡ Some e
damaged_reads e line fits decodes utf8 reads compact =
    let whole : tree line ≡ Some (object (damaged_members e)) = rw (utf8, reads, damaged_no_float e) refl in
    let canonical : same (compact_text (object (damaged_members e))) line ≡ true =
    rw (sym compact) (same_self line) in
    rw (whole, canonical) (row_of_damaged e fits decodes)
