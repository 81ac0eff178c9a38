-- Which rows represent which broker (this project's definition).
use Rattle.std.specs.Prelude.{◌≡◌, Option, None}
use Rattle.broker_model.specs.Words.{Text, Broker, Sound, response_of, Answer, forms, Outcome, Rows, table_of, rows_of}

-- The rows are those of the broker, which is sound, but for the caller who may have spent its last use: none between
-- two requests.
pub record Represents (who : Option Text) (kept : Rows) (b : Broker) : Type 0 where
  pub rows : table_of kept ≡ rows_of b
  pub sound : Sound forms who b

-- the answer is the response of the outcome, and the rows represent its next broker
pub record Gives (a : Answer) (rows : Rows) (o : Outcome) : Type 0 where
  pub response : response_of a ≡ o.response
  pub represents : Represents None rows o.next
