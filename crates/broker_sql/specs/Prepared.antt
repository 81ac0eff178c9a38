-- What rows are made ready as, for a store (this project's definition).
use Rattle.std.specs.Prelude.{◌≡◌, ◌≢◌, ◌⊎◌, ℕ, Option, Some, None}
use Rattle.std.specs.FinMap as map
use Rattle.broker_model.specs.Words.{first_broker, id, token_word, accessor_word, Text, token_text, Words}
use Rattle.broker_model.specs.Words.{table_of, Rows, AreUpgraded}
use Rattle.broker_rows.specs.Words.{HasNoClock, Represents}

-- a broker that was there before, with the row of the clock, as it was: rows of keys in format 1 are in format 2
pub record IsOpened (before after : Rows) : Type 0 where
  pub started : ¬ HasNoClock before
  pub upgraded : AreUpgraded (table_of before) (table_of after)

-- the first broker, where there was no row, with the root token of word 1
pub record IsStarted (moment : ℕ) (words : Words) (before after : Rows) (token : Text) : Type 0 where
  pub empty : before ≡ map.empty
  pub differ : token_word words ≢ accessor_word words
  pub broker : Represents None after (first_broker moment (token_word words) (accessor_word words))
  pub root : token ≡ token_text (id (token_word words))

-- no token is told of a broker that was there before
abbrev pub IsPrepared : ℕ → Words → Rows → Rows → Option Text → Type 0
IsPrepared moment words before after None = IsOpened before after
IsPrepared moment words before after (Some token) = IsStarted moment words before after token

-- Neither can be: there are rows and none of the clock, or there is no row, and words 1 and 2, which would be those of
-- the first broker, are equal.
abbrev pub CannotStart : Words → Rows → Type 0
CannotStart words rows =
    (HasNoClock rows × (rows ≢ map.empty)) ⊎ ((rows ≡ map.empty) × (token_word words ≡ accessor_word words))
