-- The rows that mark identifiers as given out (this project's row format).
use Rattle.std.specs.Prelude.{◌∷◌, ◌&&◌, List, [], Bool, true, not, is_none}
use Rattle.broker_model.specs.Words.{list_any, Text, same, Table}
use Rattle.records.specs.declared.kind.Kind.TheVariants as kind

-- no row marks one of them as given out, and no two are equal
abbrev pub are_unmarked : Table → List Text → Bool
are_unmarked rows [] = true
are_unmarked rows (i ∷ is) = is_none (rows kind.Used i) && (not (list_any (same i) is) && are_unmarked rows is)
