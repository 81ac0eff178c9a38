-- The identifiers that a request can give out: those of its random words (this project's definition).
use Rattle.std.specs.Prelude.{ℕ, slice_index}
use Rattle.broker_types.specs.Text.{Text}
use Rattle.broker_types.specs.Identifier.{id}
use Rattle.broker_types.specs.declared.words.Words.{Words}

-- the identifiers of the words 0 to 6
pub record Names : Type 0 where
  pub request : Text
  pub token : Text
  pub accessor : Text
  pub lease : Text
  pub credential : Text
  pub wrapping_token : Text
  pub wrapping_accessor : Text

-- the words of an event by what is named by their identifiers
abbrev pub request_word : Words → ℕ
request_word words = slice_index words.0 0

abbrev pub token_word : Words → ℕ
token_word words = slice_index words.0 1

abbrev pub accessor_word : Words → ℕ
accessor_word words = slice_index words.0 2

abbrev pub lease_word : Words → ℕ
lease_word words = slice_index words.0 3

abbrev pub credential_word : Words → ℕ
credential_word words = slice_index words.0 4

abbrev pub wrapping_token_word : Words → ℕ
wrapping_token_word words = slice_index words.0 5

abbrev pub wrapping_accessor_word : Words → ℕ
wrapping_accessor_word words = slice_index words.0 6

-- the names of an event's words
unfoldable pub names_of : Words → Names
names_of words =
    record {
      request = id (request_word words);
      token = id (token_word words);
      accessor = id (accessor_word words);
      lease = id (lease_word words);
      credential = id (credential_word words);
      wrapping_token = id (wrapping_token_word words);
      wrapping_accessor = id (wrapping_accessor_word words);
    }
