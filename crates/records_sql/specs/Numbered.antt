-- Rows of a table as they are shown by number, kind and when they are due (this project's definition).
use Rattle.std.specs.Prelude.{◌≡◌, ◌<◌, ◌∷◌, ℕ, pos, List, [], Option, None, Some}
use Rattle.sqlite.specs.declared.types.Value.TheVariants.{Int}
use Rattle.sqlite.specs.Order.{Row}
use Rattle.sqlite_value.specs.Order.{column}
use Rattle.records.specs.Words.{kind_number, kind_of}
use Rattle.records_sql.specs.SqlTable.{int_in, size_of, due_in, due_value}

abbrev pub number_of : Row → ℕ
number_of r = size_of (int_in (column r 0))

-- it has a number, which is not negative, one of the kinds there are, and is due at a moment or never
pub record IsListed (r : Row) : Type 0 where
  pub number : column r 0 ≡ Int (pos (number_of r))
  pub kind : column r 1 ≡ Int (pos (kind_number (kind_of (size_of (int_in (column r 1))))))
  pub due : column r 2 ≡ due_value (due_in (column r 2))

abbrev pub IsOver : Option ℕ → ℕ → Type 0
IsOver None n = Unit {0}
IsOver (Some last) n = last < n

-- each row is listed so, and the numbers rise from the last one on
abbrev pub AreNumbered : Option ℕ → List Row → Type 0
AreNumbered last [] = Unit {0}
AreNumbered last (r ∷ rs) = IsListed r × IsOver last (number_of r) × AreNumbered (Some (number_of r)) rs
