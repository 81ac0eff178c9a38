-- That something remembered is true of rows is a fact with one proof at most: for structs that keep it (this
-- project's).
use Rattle.records.specs.Words.{ℕ, Option, Coded, Coded-set, coded_option, Π_prop, →_prop, le_prop, Rows}
use Rattle.records.specs.contracts.row.Row as row
use Rattle.records.specs.declared.row.Row.{Row}
use Rattle.records_sql.specs.Memory.{Memory, AreFound, IsCalmUntil, Agrees}

row_coded : Coded (Option Row)
row_coded = coded_option row.the_row.coded

AreFound-prop : (memory : Memory) (rows : Rows) → IsProp (AreFound memory.entries rows)
AreFound-prop memory rows = Π_prop (λ k. Π_prop (λ d. →_prop (Coded-set row_coded _ _)))

IsCalmUntil-prop : (moment : ℕ) (rows : Rows) → IsProp (IsCalmUntil moment rows)
IsCalmUntil-prop moment rows = Π_prop (λ key. Π_prop (λ row. →_prop (Π_prop (λ d. →_prop le_prop))))

pub Agrees-prop : (memory : Memory) (rows : Rows) → IsProp (Agrees memory rows)
Agrees-prop memory rows x y =
    λ i. record {
      entries = AreFound-prop memory rows x.entries y.entries i;
      calm = IsCalmUntil-prop memory.calm_until rows x.calm y.calm i;
    }
