-- What is listed of leases: each with its row, and all of them.
use Rattle.std.proofs.Common.{◌≡◌, ◌∷◌, ℕ, List, filter, Bool, true, false, cond, get_or, Some, refl, sym, ◌∙◌, ap}
use Rattle.records.specs.Words.{get, entries, All-filter, filter_passes, Text, due_each, due_whole, AreDue}
use Rattle.records.specs.Words.{Contains-filter, passing_each, passing_whole, RowKey, is_of_kind, same_kind, Table}
use Rattle.records.specs.Words.{table_of, Rows}
use Rattle.records.specs.declared.kind.Kind.TheVariants as kind
use Rattle.leases.specs.Words.{Row, Ending, has_come, leases_among, AreThoseThatEnd, AreStillDue}

-- a lease at the head of a list is one of its leases
pub among_lease : (e : RowKey × Row) (es : List (RowKey × Row)) → is_of_kind kind.Lease e.0 ≡ true
    → leases_among (e ∷ es) ≡ e ∷ leases_among es
among_lease e es is = ap (λ v. cond v (e ∷ leases_among es) (leases_among es)) is

-- and another row is none
pub among_other : (e : RowKey × Row) (es : List (RowKey × Row)) → is_of_kind kind.Lease e.0 ≡ false
    → leases_among (e ∷ es) ≡ leases_among es
among_other e es other = ap (λ v. cond v (e ∷ leases_among es) (leases_among es)) other

-- the leases that pass a test are those that end, if the test tells which do
pub those_passing : (rows : Rows) (ends : Ending) (p : RowKey × Row → Bool)
    → ((q : Text) (row : Row) → p ((kind.Lease, q), row) ≡ ends q row)
    → AreThoseThatEnd ends (table_of rows) (leases_among (filter p (entries rows)))
those_passing rows ends p tells = record {
  each = λ k d below.
      let e = get_or (leases_among listed) k d in
      let lease = same_kind _ kind.Lease (filter_passes is_lease listed k d below) in
      let row = All-filter is_lease (λ e. (get rows e.0 ≡ Some e.1) × (p e ≡ true)) listed
      (passing_each rows p) k d below in (
        (λ i. get rows (sym lease i, e.0.1)) ∙ row.0,
        sym (tells e.0.1 e.1) ∙ (λ i. p ((sym lease i, e.0.1), e.1))
            ∙ row.1,
      );
  whole = λ q row at goes. Contains-filter is_lease listed ((kind.Lease, q), row)
      (passing_whole rows p (kind.Lease, q) row at (tells q row ∙ goes)) refl;
}
  where
    listed : List (RowKey × Row)
    listed = filter p (entries rows)

    is_lease : RowKey × Row → Bool
    is_lease e = is_of_kind kind.Lease e.0

-- those among what is due are those whose end has come
pub those_due : (rows : Table) (now : ℕ) (list : List (RowKey × Row)) → AreStillDue now list rows
    → AreThoseThatEnd (has_come now) rows (leases_among list)
those_due rows now list still = record {
  each = λ k d below.
      let e = get_or (leases_among list) k d in
      let row = due_each still.asked now list still.due kind.Lease k d below in
      (still.same e.0.1 ∙ (λ i. get still.asked (sym row.0 i, e.0.1)) ∙ row.1, row.2);
  whole = λ q row at goes. due_whole still.asked now list still.due kind.Lease q row (sym (still.same q) ∙ at) goes;
}

-- what is due now is so still
pub still_due : (rows same : Rows) (now : ℕ) (list : List (RowKey × Row)) → same ≡ rows → AreDue rows now list
    → AreStillDue now list (table_of same)
still_due rows same now list is due =
    record { asked = rows; due = due; same = λ q. ap (λ (r : Rows). table_of r kind.Lease q) is }
