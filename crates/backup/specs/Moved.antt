-- Whether a log was moved into its database (this project's definition).
use Rattle.std.specs.Prelude.{Bool, ℕ, List, not}
use Rattle.std.specs.Str.{bytes_eq}

-- it has another head than before
abbrev pub is_moved : List ℕ → List ℕ → Bool
is_moved before now = not (bytes_eq before now)
