-- What a member of a body may hold (RFC 8259, section 3), and the texts that are accepted in its place (this
-- profile's).
use Rattle.std.specs.Prelude.{◌+◌, ◌-◌, ◌*◌, ◌&&◌, ◌==◌, ◌∷◌, if◌then◌else◌, ℕ, nat_le, List, [], length, not, map}
use Rattle.broker_types.specs.Words.{filter, reverse, Bool, true, false, Option, Some, None, option_map}
use Rattle.broker_types.specs.Words.{option_and_then, codes, slice_split, is_ascii_digit, Text, same, duration_of}
use Rattle.broker_types.specs.Words.{at_most}
use Rattle.serde_json.specs.Data.{Data, string, object, Items, no_items, item, Members, no_members, member}
use Rattle.serde_json.specs.Find.{as_bool, as_number, as_str, as_array, as_object, as_u64}
use Rattle.serde_json.specs.Written.{compact_text}
use Rattle.api_json.specs.declared.from_member.DeletionTime.{DeletionTime}
use Rattle.api_json.specs.declared.from_member.DeletionTime.TheVariants.{Never}

-- ---- what texts stand for

-- the value of digits that go on after n
abbrev pub digits_from : ℕ → Text → Option ℕ
digits_from n [] = Some n
digits_from n (c ∷ cs) = if is_ascii_digit c then digits_from (n * 10 + (c - 48)) cs else None

-- 1 to 18 digits
abbrev pub count_text : Text → Option ℕ
count_text s = if nat_le 1 (length s) && nat_le (length s) 18 then digits_from 0 s else None

-- `true` or `false`
abbrev pub flag_text : Text → Option Bool
flag_text s = if same s (codes "true") then Some true else if same s (codes "false") then Some false else None

-- `0s`
abbrev pub deletion_time_text : Text → Option DeletionTime
deletion_time_text s = if same s (codes "0s") then Some Never else None

-- without the spaces (U+0020) at the beginning
abbrev pub after_spaces : Text → Text
after_spaces [] = []
after_spaces (c ∷ cs) = if c == 32 then after_spaces cs else c ∷ cs

-- without the spaces at the end
abbrev pub before_spaces : Text → Text
before_spaces s = reverse (after_spaces (reverse s))

-- without the spaces around it
abbrev pub without_spaces : Text → Text
without_spaces s = before_spaces (after_spaces s)

-- not empty
abbrev pub is_part : Text → Bool
is_part t = not (length t == 0)

-- what is between commas, without the spaces around it and without empty parts
unfoldable pub comma_parts : Text → List Text
comma_parts s = filter is_part (map without_spaces (slice_split (λ c. c == 44) s))

-- the counts of texts, if each is one
abbrev pub each_count : List Text → Option (List ℕ)
each_count [] = Some []
each_count (s ∷ ss) = option_and_then (λ n. option_map (λ ns. n ∷ ns) (each_count ss)) (count_text s)

-- ---- what values are

-- what the text stands for, and of any other value what it is itself
abbrev pub or_text : {X : Type 0} → (Text → Option X) → (Data → Option X) → Data → Option X
or_text stands_for kind (string s) = stands_for s
or_text stands_for kind d = kind d

-- a whole number from 0 to 2^64-1
abbrev pub as_whole : Data → Option ℕ
as_whole d = option_and_then as_u64 (as_number d)

-- the items, if each is of the kind
abbrev pub each_item : {X : Type 0} → (Data → Option X) → Items → Option (List X)
each_item kind no_items = Some []
each_item kind (item d ds) = option_and_then (λ x. option_map (λ xs. x ∷ xs) (each_item kind ds)) (kind d)

-- an array, each item of the kind
abbrev pub as_list : {X : Type 0} → (Data → Option X) → Data → Option (List X)
as_list kind d = option_and_then (each_item kind) (as_array d)

-- ---- kinds of members

-- a whole number from 0 to 2^64-1, or 1 to 18 digits
abbrev pub as_count : Data → Option ℕ
as_count = or_text count_text as_whole

-- seconds, at most 2^32-1 of them, as a number or as the text of a duration
abbrev pub as_duration : Data → Option ℕ
as_duration = or_text duration_of (λ d. at_most (as_whole d))

-- a truth value, or its name
abbrev pub as_flag : Data → Option Bool
as_flag = or_text flag_text as_bool

-- a text
abbrev pub as_text : Data → Option Text
as_text = as_str

-- after which time versions are deleted: only the text `0s`, which is never, is accepted
abbrev pub as_deletion_time : Data → Option DeletionTime
as_deletion_time d = option_and_then deletion_time_text (as_text d)

-- texts as they are, or one text with commas between them
abbrev pub as_texts : Data → Option (List Text)
as_texts = or_text (λ s. Some (comma_parts s)) (as_list as_text)

-- counts, or one text with commas between them
abbrev pub as_counts : Data → Option (List ℕ)
as_counts = or_text (λ s. each_count (comma_parts s)) (as_list as_count)

-- the members of an object
abbrev pub as_members : Data → Option Members
as_members = as_object

-- an object, kept as its compact text
abbrev pub as_object_text : Data → Option Text
as_object_text d = option_map (λ ms. compact_text (object ms)) (as_members d)

-- names and values, by name, if each value is a text
abbrev pub each_text : Members → Option (List (Text × Text))
each_text no_members = Some []
each_text (member k d ms) = option_and_then (λ t. option_map (λ es. (k, t) ∷ es) (each_text ms)) (as_text d)

-- an object of texts
abbrev pub as_pairs : Data → Option (List (Text × Text))
as_pairs d = option_and_then each_text (as_members d)
