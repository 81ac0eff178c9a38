-- Numbers as text: whole ones, and microseconds in seconds.
use Rattle.std.specs.Prelude.{◌+◌, ◌/◌, ◌%◌, ◌∷◌, ◌++◌, ℕ, [], codes, decimal}
use Rattle.status.specs.declared.family.Number.{Number}
use Rattle.status.specs.declared.family.Number.TheVariants.{Whole, Seconds}
use Rattle.status.specs.Samples.{Text}

-- the last digit of a number
abbrev pub last_digit : ℕ → ℕ
last_digit n = 48 + n % 10

-- the last six digits of a number
abbrev pub six_digits : ℕ → Text
six_digits n =
    last_digit (n / 100000) ∷ last_digit (n / 10000) ∷ last_digit (n / 1000) ∷ last_digit (n / 100)
    ∷ last_digit (n / 10) ∷ last_digit n ∷ []

-- a number after a text; microseconds as seconds with six places
unfoldable pub with_number : Text → Number → Text
with_number text (Whole n) = text ++ decimal n
with_number text (Seconds micros) = text ++ decimal (micros / 1000000) ++ codes "." ++ six_digits micros
