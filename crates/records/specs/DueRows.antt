-- The rows that are due (this project's definition).
use Rattle.std.specs.Prelude.{◌≡◌, ℕ, Bool, false, nat_le, unwrap_or, List, filter, Option, IsPermutation, IsSorted}
use Rattle.broker_types.specs.Words.{option_map_or, Ordering, nat_cmp, ordering_then, entries}
use Rattle.records.specs.declared.row.Row.{Row}
use Rattle.records.specs.Kind.{RowKey, key_cmp}
use Rattle.records.specs.Transaction.{Rows}

-- whether what ends then has ended by the moment; what does not end by itself is never due
abbrev pub is_due : ℕ → Option ℕ → Bool
is_due moment due = option_map_or (λ d. nat_le d moment) due false

-- the rows that are due at or before the moment, in the order of their keys
abbrev pub rows_due : Rows → ℕ → List (RowKey × Row)
rows_due rows moment = filter (λ e. is_due moment e.1.due) (entries rows)

-- by when they are due, and then by kind and key
abbrev pub due_cmp : RowKey × Row → RowKey × Row → Ordering
due_cmp a b = ordering_then (nat_cmp (unwrap_or a.1.due 0) (unwrap_or b.1.due 0)) (key_cmp a.0 b.0)

-- all rows that are due at or before the moment, each once, in the order of when they are due
pub record AreDue (rows : Rows) (moment : ℕ) (list : List (RowKey × Row)) : Type 0 where
  pub whole : IsPermutation (rows_due rows moment) list
  pub sorted : IsSorted due_cmp list

-- there is one such list
abbrev pub DueRowsHaveOneOrder : Type 0
DueRowsHaveOneOrder =
    (rows : Rows) (moment : ℕ) (xs ys : List (RowKey × Row)) → AreDue rows moment xs → AreDue rows moment ys → xs ≡ ys
