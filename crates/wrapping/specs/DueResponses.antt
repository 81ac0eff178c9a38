-- What expiry makes of the rows of responses, whatever these are (this project's definition).
use Rattle.std.specs.Prelude.{◌≡◌, ◌∷◌, if◌then◌else◌, ℕ, List, [], Bool, true, false, Some, None}
use Rattle.records.specs.Words.{AllByRecursion, option_map_or, Text, Waiting, accessor_in, is_told, has, is_due, AreDue}
use Rattle.records.specs.Words.{RowKey, is_of_kind, IsWaitingInRange, waiting_row, Table, table_of, Rows}
use Rattle.records.specs.declared.kind.Kind.TheVariants as kind
use Rattle.records.specs.declared.row.Row.{Row}
use Rattle.wrapping.specs.WaitingRows.{without_response}

-- ---- which are due

-- whether t has a row that is due
abbrev pub is_due_at : ℕ → Table → Text → Bool
is_due_at now rows t = option_map_or (λ (row : Row). is_due now row.due) (rows kind.Waiting t) false

-- The list is that of all rows that were due by now when it was asked for, and since then no row of a wrapping token
-- has changed.
pub record AreStillDue (now : ℕ) (list : List (RowKey × Row)) (rows : Table) : Type 0 where
  pub asked : Rows
  pub due : AreDue asked now list
  pub same : (t : Text) → rows kind.Waiting t ≡ table_of asked kind.Waiting t

-- the row of a response, which can be read
abbrev pub IsWaitingRow : Row → Type 0
IsWaitingRow row = (w : Waiting) × IsWaitingInRange w × (row ≡ waiting_row w)

-- the rows of wrapping tokens that are due can be read
abbrev pub AreReadableDue : ℕ → Table → Type 0
AreReadableDue now rows =
    (t : Text) (row : Row) → rows kind.Waiting t ≡ Some row → is_due now row.due ≡ true → IsWaitingRow row

-- one of them cannot be read
abbrev pub IsDamagedDue : ℕ → Table → Type 0
IsDamagedDue now rows = AreReadableDue now rows → ⊥

-- ---- what is left

-- the table without the rows of the wrapping tokens, and of the accessors that these tell
abbrev pub without_responses : List Text → Table → Table
without_responses tokens rows kind.Waiting q = if has tokens q then None else rows kind.Waiting q
without_responses tokens rows kind.Accessor q =
    if is_told kind.Waiting tokens rows q then None else rows kind.Accessor q
without_responses tokens rows k q = rows k q

-- The rows of wrapping tokens that are due were read, and are gone with those of the accessors that they tell. No other
-- row has changed.
pub record Sweeps (now : ℕ) (old new : Table) : Type 0 where
  pub ended : List Text
  pub each : (t : Text) → has ended t ≡ is_due_at now old t
  pub readable : AreReadableDue now old
  pub rows : new ≡ without_responses ended old

-- ---- one entry after the other

-- the row of a wrapping token
abbrev pub is_waiting : RowKey × Row → Bool
is_waiting e = is_of_kind kind.Waiting e.0

-- the rows of wrapping tokens among the entries can be read
abbrev pub AreReadable : List (RowKey × Row) → Type 0
AreReadable es = AllByRecursion (λ e. is_waiting e ≡ true → IsWaitingRow e.1) es

-- the table without the row of the entry, and without that of the accessor that it tells
abbrev pub without_told : Table → RowKey × Row → Table
without_told rows e = without_response rows e.0.1 (accessor_in e.1)

-- the same of each row of a wrapping token among the entries
abbrev pub without_each : List (RowKey × Row) → Table → Table
without_each [] rows = rows
without_each (e ∷ es) rows = without_each es (if is_waiting e then without_told rows e else rows)
