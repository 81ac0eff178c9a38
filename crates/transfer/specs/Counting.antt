-- What a count shows (this project's definition).
use Rattle.std.specs.Prelude.{ℕ}
use Rattle.transfer.specs.declared.counted.Counted.{Counted}

-- how many rows were visited
abbrev pub count_of : Counted → ℕ
count_of counted = counted.count
