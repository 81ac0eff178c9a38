-- Rows of leases taken out, one after another (this project's definition).
use Rattle.std.specs.Prelude.{◌≡◌, ◌∷◌, ℕ, true, List, [], filter, Some, All, Contains}
use Rattle.std.specs.FinMap as fin
use Rattle.records.specs.Words.{Text, Lease, AreDue, RowKey, is_of_kind, IsLeaseInRange, lease_row, Table, table_of}
use Rattle.records.specs.Words.{Rows}
use Rattle.records.specs.declared.kind.Kind.TheVariants as kind
use Rattle.records.specs.declared.row.Row.{Row}
use Rattle.leases.specs.Endings.{Ending}

-- the rows without that of a lease and that of its credential
abbrev pub without_lease : Rows → Text → Lease → Rows
without_lease rows lease_id l = fin.remove (fin.remove rows (kind.Credential, l.credential)) (kind.Lease, lease_id)

-- the row is that of a lease; what was at the id is gone, with the row of the lease's credential
pub record RemovesLease (lease_id : Text) (row : Row) (old new : Rows) : Type 0 where
  pub lease : Lease
  pub in_range : IsLeaseInRange lease
  pub row_is : row ≡ lease_row row.owner lease
  pub rows : new ≡ without_lease old lease_id lease

-- the same of each entry of a list, one after another
abbrev pub RemovesEach : List (RowKey × Row) → Rows → Rows → Type 0
RemovesEach [] old new = new ≡ old
RemovesEach (e ∷ es) old new = (mid : Rows) × RemovesLease e.0.1 e.1 old mid × RemovesEach es mid new

-- ---- the leases of a list

-- the entries of leases
abbrev pub leases_among : List (RowKey × Row) → List (RowKey × Row)
leases_among es = filter (λ e. is_of_kind kind.Lease e.0) es

-- the list has each lease of the table that ends, with its row, and no other
pub record AreThoseThatEnd (ends : Ending) (rows : Table) (es : List (RowKey × Row)) : Type 0 where
  pub each : All (λ e. (rows kind.Lease e.0.1 ≡ Some e.1) × (ends e.0.1 e.1 ≡ true)) es
  pub whole : (q : Text) (row : Row) → rows kind.Lease q ≡ Some row → ends q row ≡ true
      → Contains es ((kind.Lease, q), row)

-- The list is that of all rows that were due by now when it was asked for, and since then no row of a lease has
-- changed.
pub record AreStillDue (now : ℕ) (list : List (RowKey × Row)) (rows : Table) : Type 0 where
  pub asked : Rows
  pub due : AreDue asked now list
  pub same : (q : Text) → rows kind.Lease q ≡ table_of asked kind.Lease q
