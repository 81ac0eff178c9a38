-- What a pull does that may find no byte (this project's definition).
use Rattle.std.specs.Prelude.{◌≡◌, ◌<◌, ℕ, List, Option, None, Some, length, take}
use Rattle.std.specs.Io.KnownBytes.{Consumes, IsAtEnd, Keeps}

-- no byte is there now, and what is left is as before; or so many bytes came, 0 only at the end or if the buffer has no
-- room
abbrev pub PullsNow : Option (List ℕ) → Option (List ℕ) → Option ℕ → List ℕ → Type 0
PullsNow old new None buffer = Keeps old new
PullsNow old new (Some count) buffer =
    Consumes old new (take count buffer) × (count ≡ 0 → 0 < length buffer → IsAtEnd new)
