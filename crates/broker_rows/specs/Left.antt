-- What is left of a broker when tokens have ended (this project's definition).
use Rattle.std.specs.Prelude.{◌≡◌, List, Option, Some}
use Rattle.broker_model.specs.Words.{Text, get, Token, Tokens, Broker, Sound, Tells, KeepsOthers, of_tokens, table_of}
use Rattle.broker_model.specs.Words.{Rows, AreEnded, Ending, EndsLeases, Leaves, either, are_owned, forms}
use Rattle.broker_rows.specs.Representing.{Represents}

-- each token is one of the others, with the same cubbyhole
abbrev pub KeepCubbyholes : Tokens → Tokens → Type 0
KeepCubbyholes ts us =
    (t : Text) (y : Token) → get us t ≡ Some y → (x : Token) × (get ts t ≡ Some x) × (y.cubbyhole ≡ x.cubbyhole)

-- Tokens of the broker b have ended, and us are those that are left, each with its cubbyhole. The rows tell us already,
-- and leases that were due have ended. What belonged to the ended tokens is still there, and so is all else.
pub record HaveEnded (who after : Option Text) (b : Broker) (us : Tokens) (ended : List Text) (rows : Rows) :
    Type 0 where
  pub old : Rows
  pub mid : Rows
  pub represents : Represents who old b
  pub are : AreEnded b (record b { tokens = us }) ended
  pub keep : KeepCubbyholes b.tokens us
  pub sound : Sound forms after (record b { tokens = us })
  pub tells : Tells of_tokens (table_of mid) (record b { tokens = us })
  pub others : KeepsOthers of_tokens (table_of old) (table_of mid)
  pub due : Ending
  pub ends : EndsLeases due (table_of mid) (table_of rows)
  pub leaves : Leaves (either due (are_owned ended)) b (record b { tokens = us })
