-- The command that a body is, by what a reader finds in it (this project's definition).
use Rattle.records.specs.Words.{ℕ, List, Result, Ok, ◌>>=◌, Refusal}
use Rattle.serde_json.specs.Data.{Members}
use Rattle.api_json.specs.Words.{body_members}

-- the command of what is found in a body
abbrev pub read_as : {X Command : Type 0} → (Members → Result X Refusal) → (X → Command) → List ℕ
    → Result Command Refusal
read_as read command body = do
  members ← body_members body
  x ← read members
  Ok (command x)

-- the command, if the body is an object
abbrev pub read_none : {Command : Type 0} → Command → List ℕ → Result Command Refusal
read_none command body = do
  members ← body_members body
  Ok command
