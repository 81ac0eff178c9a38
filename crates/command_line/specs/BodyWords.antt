-- What a word of a body says (this project's).
use Rattle.std.specs.Prelude.{◌==◌, ◌||◌, ◌∷◌, if◌then◌else◌, ℕ, [], length, codes, bytes_eq, nat_lt, Bool, false, not}
use Rattle.std.specs.Prelude.{Option, Some, None, is_some, option_map, option_and_then}
use Rattle.std.specs.List.{position_or_len, before_first, after_first}
use Rattle.broker_types.specs.Words.{Text}
use Rattle.command_line.specs.declared.body_words.Origin.{Origin}
use Rattle.command_line.specs.declared.body_words.Origin.TheVariants.{File, Input}

-- ---- NAME=VALUE

-- the byte `=`
abbrev pub is_equals : ℕ → Bool
is_equals c = c == 61

-- what is before the first `=` and what is after it, if there is one
abbrev pub split_at_equals : Text → Option (Text × Text)
split_at_equals word =
    if nat_lt (position_or_len is_equals word) (length word)
    then Some (before_first is_equals word, after_first is_equals word) else None

-- `{`, `[`, `"` or white space, with which a JSON text of an object, an array or a string begins (RFC 8259, section 2)
abbrev pub begins_json : ℕ → Bool
begins_json c = (c == 123) || (c == 91) || (c == 34) || (c == 32) || (c == 9) || (c == 13) || (c == 10)

-- not empty, and not the beginning of a JSON text
abbrev pub is_name : Text → Bool
is_name [] = false
is_name (c ∷ cs) = not (begins_json c)

abbrev pub named : Text × Text → Option (Text × Text)
named p = if is_name p.0 then Some p else None

-- NAME and VALUE of a word of the form NAME=VALUE
unfoldable pub parts_of : Text → Option (Text × Text)
parts_of word = option_and_then named (split_at_equals word)

-- ---- NAME:=JSON

-- what is before a colon at the end, if there is one
abbrev pub before_colon : Text → Option Text
before_colon [] = None
before_colon (c ∷ []) = if c == 58 then Some [] else None
before_colon (c ∷ d ∷ cs) = option_map (λ t. c ∷ t) (before_colon (d ∷ cs))

abbrev pub not_empty : Text → Option Text
not_empty [] = None
not_empty (c ∷ cs) = Some (c ∷ cs)

-- the name of a member whose value is JSON, by what is before the `=`: it ends in a colon, which is not part of it
unfoldable pub json_name : Text → Option Text
json_name name = option_and_then not_empty (before_colon name)

-- ---- sources

-- standard input, or the file of this name
pub data Source : Type 0 where
  file : Text → Source
  input : Source

abbrev pub source_of : Origin → Source
source_of (File name) = file name.now
source_of Input = input

-- what is after an `@` at the beginning
abbrev pub after_at : Text → Option Text
after_at [] = None
after_at (c ∷ cs) = if c == 64 then Some cs else None

-- `-` is standard input, and `@FILE` a file
unfoldable pub source_named : Text → Option Source
source_named t = if bytes_eq t (codes "-") then Some input else option_map file (after_at t)

-- the source that a value names, unless it is JSON
abbrev pub member_source : Text × Text → Option Source
member_source p = if is_some (json_name p.0) then None else source_named p.1

abbrev pub source_in : Text → Option (Text × Text) → Option Source
source_in word None = source_named word
source_in word (Some p) = member_source p

-- where the text of a word comes from, if it is not the word itself
abbrev pub source : Text → Option Source
source word = source_in word (parts_of word)
