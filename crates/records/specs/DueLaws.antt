-- Of the rows that are due, those of one kind: what a sweep of this kind goes over (this project's).
use Rattle.std.specs.Prelude.{◌≡◌, ℕ, List, Bool, true, map, filter, Some, All, Contains}
use Rattle.broker_types.specs.Words.{eq_by_cmp, get, IsDistinct, All-filter, filter_passes, All-permutation}
use Rattle.broker_types.specs.Words.{Contains-permutation, IsPermutation-map, IsDistinct-IsPermutation}
use Rattle.broker_types.specs.Words.{IsDistinct-keys_filter, eq_by_cmp_equiv, Text, same}
use Rattle.records.specs.declared.kind.Kind.{Kind}
use Rattle.records.specs.declared.row.Row.{Row}
use Rattle.records.specs.DueRows.{is_due, rows_due, AreDue}
use Rattle.records.specs.EntryLaws.{Contains-filter, passing_each, passing_whole, passing_once, texts_once}
use Rattle.records.specs.Kind.{RowKey, key_cmp, kind_number, is_of_kind}
use Rattle.records.specs.KeyLaws.{key_cmp_total, same_kind}
use Rattle.records.specs.SplitLaws.{eqb_self}
use Rattle.records.specs.Transaction.{Rows}

module _ (rows : Rows) (moment : ℕ) (list : List (RowKey × Row)) (due : AreDue rows moment list) (kind : Kind) where
  abbrev of_kind : RowKey × Row → Bool
  of_kind e = is_of_kind kind e.0

  abbrev IsDueRow : RowKey × Row → Type 0
  IsDueRow e = (get rows e.0 ≡ Some e.1) × (is_due moment e.1.due ≡ true)

  -- each is a row of the kind that is due
  pub due_each : All (λ e. (e.0.0 ≡ kind) × (get rows e.0 ≡ Some e.1) × (is_due moment e.1.due ≡ true))
      (filter of_kind list)
  due_each k d below =
      let row =
      All-filter of_kind IsDueRow list
      (All-permutation IsDueRow (rows_due rows moment) list due.whole (passing_each rows (λ e. is_due moment e.1.due)))
      k d below in
      (same_kind _ kind (filter_passes of_kind list k d below), row.0, row.1)

  -- each such row is one of them
  pub due_whole : (t : Text) (row : Row) → get rows (kind, t) ≡ Some row → is_due moment row.due ≡ true
      → Contains (filter of_kind list) ((kind, t), row)
  due_whole t row is has_ended =
      Contains-filter of_kind list ((kind, t), row)
      (Contains-permutation (rows_due rows moment) list ((kind, t), row) due.whole
      (passing_whole rows (λ e. is_due moment e.1.due) (kind, t) row is has_ended)) (eqb_self (kind_number kind))

  -- each once
  pub due_once : IsDistinct same (map (λ e. e.0.1) (filter of_kind list))
  due_once =
      texts_once kind (filter of_kind list) (λ k d below. (due_each k d below).0)
      (IsDistinct-keys_filter (eq_by_cmp key_cmp) of_kind list
      (IsDistinct-IsPermutation (eq_by_cmp key_cmp) (eq_by_cmp_equiv key_cmp_total).symm
      (map (λ e. e.0) (rows_due rows moment)) (map (λ e. e.0) list)
      (IsPermutation-map (λ e. e.0) (rows_due rows moment) list due.whole)
      (passing_once rows (λ e. is_due moment e.1.due))))
