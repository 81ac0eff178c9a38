-- The row of the clock: a store that was started has it (this project's definition).
use Rattle.std.specs.Prelude.{◌≡◌, ◌≤◌, ◌⊎◌, ℕ, [], Some, None, Result, Err, IfOk, IfErr}
use Rattle.std.specs.FinMap as map
use Rattle.broker_model.specs.Words.{greatest_moment, IsMemoryOrStorage, Fault, BadStart, clock_row, Rows}
use Rattle.records.specs.declared.kind.Kind.TheVariants as kind

-- the row of the clock is that of a moment
abbrev pub HasClock : Rows → Type 0
HasClock rows = (m : ℕ) × (m ≤ greatest_moment) × (map.get rows (kind.Clock, []) ≡ Some (clock_row m))

-- no row is the clock's: the store was not started
abbrev pub HasNoClock : Rows → Type 0
HasNoClock rows = map.get rows (kind.Clock, []) ≡ None

-- What a request answers over rows, whatever else they are.
pub record NeedsClock {A : Type 0} (rows : Rows) (result : Result A Fault) : Type 0 where
  -- it is answered only if the clock's row can be read
  pub answered : IfOk result (λ a. HasClock rows)
  -- `BadStart` comes only if the store was not started
  pub bad_start : result ≡ Err BadStart → HasNoClock rows
  -- and then it is the only fault but for those of memory and storage
  pub not_started : HasNoClock rows → IfErr result (λ fault. (fault ≡ BadStart) ⊎ IsMemoryOrStorage fault)
