-- Laws of the clock's row.
use Rattle.std.proofs.Common.{◌≡◌, if◌then◌else◌, ℕ, [], Bool, true, false, Option, Some, None, refl, ap}
use Rattle.broker_types.specs.Words.{Text, same, Broker}
use Rattle.broker_types.specs.TextLaws.{same_self}
use Rattle.records.specs.declared.kind.Kind.{Kind}
use Rattle.records.specs.declared.kind.Kind.TheVariants as kind
use Rattle.records.specs.RowForms.{clock_row}
use Rattle.records.specs.Rows.{rows_of}
use Rattle.records.specs.Table.{with_row}

-- the broker with its clock at n
abbrev pub with_clock : Broker → ℕ → Broker
with_clock b n = record b { clock = n }

chosen : {X : Type 0} (b : Bool) (x y : Option X) → (if b then x else None) ≡ (if b then x else (if b then y else None))
chosen true x y = refl
chosen false x y = refl

rows-with_clock_at : (b : Broker) (n : ℕ) (k : Kind) (q : Text)
    → rows_of (with_clock b n) k q ≡ with_row (rows_of b) kind.Clock [] (clock_row n) k q
unfolding rows_of
rows-with_clock_at b n kind.Clock q = chosen (same q []) (Some (clock_row n)) (Some (clock_row b.clock))
rows-with_clock_at b n _ q = refl

-- another clock changes the clock's row alone
pub rows-with_clock : (b : Broker) (n : ℕ)
    → rows_of (with_clock b n) ≡ with_row (rows_of b) kind.Clock [] (clock_row n)
rows-with_clock b n = λ i k q. rows-with_clock_at b n k q i

-- the row of the clock
pub clock_at : (b : Broker) → rows_of b kind.Clock [] ≡ Some (clock_row b.clock)
unfolding rows_of
clock_at b = ap (λ v. if v then Some (clock_row b.clock) else None) (same_self [])
