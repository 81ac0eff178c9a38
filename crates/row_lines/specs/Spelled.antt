-- The bytes that the members of a line stand for (this project's export format, over its row format).
use Rattle.std.specs.Prelude.{◌∷◌, ◌++◌, ◌^◌, ◌==◌, if◌then◌else◌, ℕ, suc, nat_lt, List, [], length, Option, Some, None}
use Rattle.std.specs.Prelude.{option_map, option_and_then}
use Rattle.broker_types.specs.Words.{Text}
use Rattle.records.specs.Spelling.{number, count, flag, text, long_text}
use Rattle.serde_json.specs.Data.{Data, null, Items, no_items, item, Members, no_members, member}
use Rattle.serde_json.specs.Find.{as_bool, as_number, as_str, as_array, as_object, as_u64, get_member}
use Rattle.row_lines.specs.Layouts.{Field}
use Rattle.row_lines.specs.declared.layout.Form.{Form}
use Rattle.row_lines.specs.declared.layout.Form.TheVariants.{Number, OptionalNumber, Flag, Text as Short, LongText}
use Rattle.row_lines.specs.declared.layout.Form.TheVariants.{Texts, Pairs}

-- the second after the first, if both are there
abbrev pub both : Option (List ℕ) → Option (List ℕ) → Option (List ℕ)
both front back = option_and_then (λ x. option_map (λ y. x ++ y) back) front

-- a whole number from 0 to 2^64-1
abbrev pub as_whole : Data → Option ℕ
as_whole d = option_and_then as_u64 (as_number d)

-- a count, if it is below 2^32
abbrev pub short_count : ℕ → Option (List ℕ)
short_count n = if nat_lt n (2 ^ 32) then Some (count n) else None

-- a text of less than 2^32 bytes
abbrev pub short_text : Text → Option (List ℕ)
short_text t = both (short_count (length t)) (Some t)

-- a number
abbrev pub spelled_number : Data → Option (List ℕ)
spelled_number d = option_map number (as_whole d)

-- `null`, or a number
abbrev pub spelled_optional : Data → Option (List ℕ)
spelled_optional null = Some (0 ∷ [])
spelled_optional d = option_map (λ n. 1 ∷ number n) (as_whole d)

-- a truth value
abbrev pub spelled_flag : Data → Option (List ℕ)
spelled_flag d = option_map flag (as_bool d)

-- a text
abbrev pub spelled_text : Data → Option (List ℕ)
spelled_text d = option_and_then short_text (as_str d)

-- a text whose length is in eight bytes
abbrev pub spelled_long : Data → Option (List ℕ)
spelled_long d = option_map long_text (as_str d)

-- how many items there are
abbrev pub count_items : Items → ℕ
count_items no_items = 0
count_items (item d ds) = suc (count_items ds)

-- texts, one after another
abbrev pub spelled_items : Items → Option (List ℕ)
spelled_items no_items = Some []
spelled_items (item d ds) = both (spelled_text d) (spelled_items ds)

-- an array of texts
abbrev pub spelled_texts : Data → Option (List ℕ)
spelled_texts d = option_and_then (λ ds. both (short_count (count_items ds)) (spelled_items ds)) (as_array d)

-- how many members there are
abbrev pub count_members : Members → ℕ
count_members no_members = 0
count_members (member k d ms) = suc (count_members ms)

-- names and texts, one pair after another
abbrev pub spelled_members : Members → Option (List ℕ)
spelled_members no_members = Some []
spelled_members (member k d ms) = both (both (short_text k) (spelled_text d)) (spelled_members ms)

-- an object of texts
abbrev pub spelled_pairs : Data → Option (List ℕ)
spelled_pairs d = option_and_then (λ ms. both (short_count (count_members ms)) (spelled_members ms)) (as_object d)

-- a field of a form
abbrev pub spelled_field : Form → Data → Option (List ℕ)
spelled_field Number = spelled_number
spelled_field OptionalNumber = spelled_optional
spelled_field Flag = spelled_flag
spelled_field Short = spelled_text
spelled_field LongText = spelled_long
spelled_field Texts = spelled_texts
spelled_field Pairs = spelled_pairs

-- the fields of a layout, one after another: each is there
abbrev pub spelled_fields : List Field → Members → Option (List ℕ)
spelled_fields [] ms = Some []
spelled_fields (f ∷ fs) ms =
    both (option_and_then (spelled_field f.form) (get_member f.called ms)) (spelled_fields fs ms)

-- the fields of a layout, and no other member
abbrev pub spelled_body : Members → List Field → Option (List ℕ)
spelled_body ms fs = if count_members ms == length fs then spelled_fields fs ms else None

-- the bytes after those that are there
abbrev pub onto : List ℕ → Option (List ℕ) → Option (List ℕ)
onto before bytes = option_map (λ more. before ++ more) bytes
