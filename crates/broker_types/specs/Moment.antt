-- Moments: whole seconds since 1970 (this project's definition).
use Rattle.std.specs.Prelude.{ℕ}

-- the greatest moment that is accepted, in the year 9892 (this project's limit)
abbrev pub greatest_moment : ℕ
greatest_moment = 250000000000
