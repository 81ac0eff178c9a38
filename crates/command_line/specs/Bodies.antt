-- The bodies that words are typed for (this project's).
use Rattle.std.specs.Prelude.{◌≡◌, ◌≤◌, ◌∷◌, if◌then◌else◌, ℕ, List, [], codes, Option, Some, None, Result, Ok, Err}
use Rattle.std.specs.Prelude.{is_some, unwrap_or}
use Rattle.broker_types.specs.Words.{Text}
use Rattle.broker_types.specs.declared.fault.Fault.TheVariants.{Memory}
use Rattle.serde_json.specs.Data.{Data, Members, number, unsigned, string, object, no_members, member, put, depth}
use Rattle.serde_json.specs.Find.{as_object}
use Rattle.serde_json.specs.Read.{read, max_depth}
use Rattle.serde_json.specs.Written.{compact_text, has_float}
use Rattle.command_line.specs.BodyWords.{json_name, parts_of}
use Rattle.command_line.specs.declared.body_words.BodyWord.{BodyWord}
use Rattle.command_line.specs.declared.no_body.BodyMistake.{BodyMistake}
use Rattle.command_line.specs.declared.no_body.BodyMistake.TheVariants as mistake
use Rattle.command_line.specs.declared.no_body.NoBody.{NoBody}
use Rattle.command_line.specs.declared.no_body.NoBody.TheVariants.{Mistake, Fault}

infixl 10 ◌>>=◌
-- the next step, unless this one found a mistake
abbrev pub ◌>>=◌ : {A B : Type 0} → Result A BodyMistake → (A → Result B BodyMistake) → Result B BodyMistake
(Ok x) >>= f = f x
(Err m) >>= f = Err m

-- why there is none of what the words mean: a mistake in them, or memory ran out
abbrev pub IsNoBody : {A : Type 0} → Result A BodyMistake → NoBody → Type 0
IsNoBody meant (Mistake m) = meant ≡ Err m
IsNoBody meant (Fault fault) = fault ≡ Memory

-- ---- values

-- a value without floats, or the mistake if the text is not JSON
abbrev pub json_in : BodyMistake → Option Data → Result Data BodyMistake
json_in otherwise None = Err otherwise
json_in otherwise (Some d) = if has_float d then Err mistake.Float else Ok d

unfoldable pub json_given : BodyMistake → Text → Result Data BodyMistake
json_given otherwise text = json_in otherwise (read text)

-- ---- members

-- the text that was read for the word, else that of the value
abbrev pub text_of : BodyWord → Text → Text
text_of word value = unwrap_or word.text value

-- name and value of a member, by what is around the `=` and by the name of one whose value is JSON
abbrev pub member_from : BodyWord → Text × Text → Option Text → Result (Text × Data) BodyMistake
member_from word p None = Ok (p.0, string (text_of word p.1))
member_from word p (Some name) = do
  d ← json_given mistake.NoJson p.1
  Ok (name, d)

abbrev pub member_in : BodyWord → Option (Text × Text) → Result (Text × Data) BodyMistake
member_in word None = Err mistake.NoMember
member_in word (Some p) = member_from word p (json_name p.0)

-- the member that a word says
unfoldable pub member_given : BodyWord → Result (Text × Data) BodyMistake
member_given word = member_in word (parts_of word.word.now)

-- these members with those that the words say; of several with one name the last counts
abbrev pub members_with : Members → List BodyWord → Result Members BodyMistake
members_with ms [] = Ok ms
members_with ms (word ∷ words) = do
  m ← member_given word
  members_with (put m.0 m.1 ms) words

-- the members that the words say
unfoldable pub members_given : List BodyWord → Result Members BodyMistake
members_given words = members_with no_members words

-- ---- bodies

-- the text of a word alone that is not NAME=VALUE, which is the whole body
unfoldable pub whole_given : List BodyWord → Option Text
whole_given (word ∷ []) = if is_some (parts_of word.word.now) then None else Some (text_of word word.word.now)
whole_given _ = None

abbrev pub body_in : List BodyWord → Option Text → Result Text BodyMistake
body_in words None = do
  ms ← members_given words
  Ok (compact_text (object ms))
body_in words (Some text) = Ok text

-- the body of a request
abbrev pub body_given : List BodyWord → Result Text BodyMistake
body_given words = body_in words (whole_given words)

-- the text is read as the value, if that does not nest too deep for a reader
abbrev pub IsTextOf : Data → Text → Type 0
IsTextOf d text = depth d ≤ max_depth → read text ≡ Some d

-- the members that the words say are read from the body
abbrev pub IsReadAsGiven : List BodyWord → Text → Type 0
IsReadAsGiven words text =
    (ms : Members) → whole_given words ≡ None → members_given words ≡ Ok ms → IsTextOf (object ms) text

-- ---- versions

-- the members of an object
abbrev pub members_of : Option Members → Result Members BodyMistake
members_of None = Err mistake.NoObject
members_of (Some ms) = Ok ms

abbrev pub data_in : List BodyWord → Option Text → Result Members BodyMistake
data_in words None = members_given words
data_in words (Some text) = do
  d ← json_given mistake.NoObject text
  members_of (as_object d)

-- the members of the data of a version
unfoldable pub data_given : List BodyWord → Result Members BodyMistake
data_given words = data_in words (whole_given words)

-- the object that asks for a version of these members, and for the number of the version before, if it is given
-- (Vault's documentation, "KV secrets engine version 2", "Create/Update secret")
abbrev pub version_object : Members → Option ℕ → Data
version_object ms None = object (member (codes "data") (object ms) no_members)
version_object ms (Some before) =
    object (member (codes "data") (object ms) (member (codes "options")
    (object (member (codes "cas") (number (unsigned before)) no_members)) no_members))

-- the body of a request for a version
abbrev pub put_given : List BodyWord → Option ℕ → Result Text BodyMistake
put_given words cas = do
  ms ← data_given words
  Ok (compact_text (version_object ms cas))

-- the members of the data are read from the body
abbrev pub IsReadAsVersion : List BodyWord → Option ℕ → Text → Type 0
IsReadAsVersion words cas text = (ms : Members) → data_given words ≡ Ok ms → IsTextOf (version_object ms cas) text
