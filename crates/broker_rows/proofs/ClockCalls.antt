-- The clock's row: from the rows to the broker.
use Rattle.std.proofs.Common.{◌≡◌, ◌≤◌, ℕ, [], Some, None, ◌∙◌, ap}
use Rattle.std.specs.FinMap as map
use Rattle.broker_model.specs.Words.{Broker, greatest_moment, Row, Table, table_of, with_row, Rows, clock_row}
use Rattle.broker_model.specs.Words.{with_clock, clock_at, table_of-insert}
use Rattle.records.specs.declared.kind.Kind.TheVariants as kind
use Rattle.broker_rows.specs.Words.{Represents}
use Rattle.broker_rows.proofs.Clocks.{represents-with_clock}

pub clock_found : (b : Broker) (rows : Rows) → Represents None rows b
    → map.get rows (kind.Clock, []) ≡ Some (clock_row b.clock)
clock_found b rows st = ap (λ (t : Table). t kind.Clock []) st.rows ∙ clock_at b

pub clock_written : (old new : Rows) (n : ℕ) (r : Row) → r ≡ clock_row n → new ≡ map.insert old (kind.Clock, []) r
    → table_of new ≡ with_row (table_of old) kind.Clock [] (clock_row n)
clock_written old new n r is e = ap table_of e ∙ table_of-insert old kind.Clock [] r
    ∙ ap (with_row (table_of old) kind.Clock []) is

pub clock_put : (b : Broker) (old new : Rows) (n : ℕ) (r : Row) → Represents None old b → n ≤ greatest_moment
    → r ≡ clock_row n
    → new ≡ map.insert old (kind.Clock, []) r → Represents None new (with_clock b n)
clock_put b old new n r st h is e =
    represents-with_clock b old new n st h (clock_written old new n r is e)
