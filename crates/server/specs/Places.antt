-- How many connections there can be at once (this project's limits).
use Rattle.std.specs.Prelude.{◌-◌, ◌/◌, ℕ, max, min}

-- of so many places, with so many descriptors: a quarter of these is kept free, or 32 if they are many
abbrev pub usable : ℕ → ℕ → ℕ
usable at_once descriptors = max (min at_once (descriptors - min (descriptors / 4) 32)) 1
