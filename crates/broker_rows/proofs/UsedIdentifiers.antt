-- Identifiers that were given out, by the rows.
use Rattle.std.proofs.Common.{◌≡◌, ◌&&◌, ◌∷◌, not, List, [], Option, Some, None, is_none, option_map, refl, ◌∙◌, ap}
use Rattle.broker_model.specs.Words.{⊤, list_any, Text, same, are_new, get, Broker, used_row, rows_of, Table, table_of}
use Rattle.broker_model.specs.Words.{Rows}
use Rattle.std.specs.FinMap as map
use Rattle.records.specs.declared.kind.Kind.TheVariants as kind
use Rattle.broker_rows.specs.Words.{are_unmarked, Represents}

-- an identifier has no row if it was not given out
none_here : {who : Option Text} (b : Broker) (rows : Rows) (i : Text) → Represents who rows b
    → is_none (map.get rows (kind.Used, i)) ≡ is_none (get b.used i)
unfolding rows_of
none_here b rows i st = ap (λ (t : Table). is_none (t kind.Used i)) st.rows ∙ by (get b.used i)
  where
    by : (o : Option ⊤) → is_none (option_map (λ _. used_row) o) ≡ is_none o
    by None = refl
    by (Some u) = refl

-- by the rows of a broker, identifiers are new that have no row
pub unmarked_new : {who : Option Text} (b : Broker) (rows : Rows) (is : List Text) → Represents who rows b
    → are_unmarked (table_of rows) is ≡ are_new b.used is
unmarked_new b rows [] st = refl
unmarked_new b rows (i ∷ is) st =
    λ k. none_here b rows i st k && (not (list_any (same i) is) && unmarked_new b rows is st k)
