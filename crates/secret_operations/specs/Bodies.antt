-- What a reader finds in a body (this project's definition).
use Rattle.broker_model.specs.Words.{ℕ, List, Result, ◌>>=◌, Refusal, body_members}
use Rattle.serde_json.specs.Data.{Members}

abbrev pub found_in : {X : Type 0} → (Members → Result X Refusal) → List ℕ → Result X Refusal
found_in read body = do
  members ← body_members body
  read members
