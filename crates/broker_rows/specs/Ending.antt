-- What goes when tokens end within a request (this project's definition).
use Rattle.std.specs.Prelude.{◌≡◌, ◌||◌, ◌==◌, if◌then◌else◌, Bool, true, false, List, length, None}
use Rattle.broker_model.specs.Words.{option_map_or, Text, Broker, has, Part, of_cubbyholes, of_leases, token_len}
use Rattle.broker_model.specs.Words.{table_of, TokenEntry, Rows, object_at, without_cubbyholes, EndsLeases, are_owned}

-- what belongs to tokens: their cubbyholes and their leases
abbrev pub of_belongings : Part
of_belongings k = of_cubbyholes k || of_leases k

-- each of the texts is as long as a token
abbrev pub AreTokenLong : List Text → Type 0
AreTokenLong texts = (t : Text) → has texts t ≡ true → length t ≡ token_len

-- the objects of c are those of b, but for those of the tokens that ended
abbrev pub LosesObjects : List Text → Broker → Broker → Type 0
LosesObjects ended b c =
    (t path : Text) → object_at c t path ≡ (if has ended t then None else object_at b t path)

-- ---- what belonged to tokens that ended, whatever the rows are

-- What belonged to tokens that ended is gone: their leases, whose rows were read, and their cubbyholes. No other row
-- has changed.
pub record LeavesNothing (ended : List Text) (old new : Rows) : Type 0 where
  pub mid : Rows
  pub leases : EndsLeases (are_owned ended) (table_of old) (table_of mid)
  pub cubbyholes : table_of new ≡ without_cubbyholes (table_of mid) ended

-- ---- a caller that has spent its last use

-- whether the uses of a token are limited and none is left
abbrev pub has_no_uses : TokenEntry → Bool
has_no_uses x = option_map_or (λ n. n == 0) x.uses_left false
