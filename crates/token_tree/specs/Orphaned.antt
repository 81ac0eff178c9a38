-- The rows of a token's children without their parent (this project's definition).
use Rattle.std.specs.Prelude.{◌∷◌, ◌&&◌, if◌then◌else◌, List, [], Bool, not}
use Rattle.std.specs.FinMap as fin
use Rattle.records.specs.Words.{Text, same, RowKey, Rows}
use Rattle.records.specs.declared.kind.Kind.TheVariants as kind
use Rattle.records.specs.declared.row.Row.{Row}

-- the row of a child of t
abbrev pub is_child : Text → RowKey × Row → Bool
is_child t e = same e.1.owner t && not (same e.0.1 t)

-- the row without an owner
abbrev pub orphaned : Row → Row
orphaned row = record row { owner = [] }

-- the rows, the children of t among the entries without a parent
abbrev pub without_parent : Text → List (RowKey × Row) → Rows → Rows
without_parent t [] rows = rows
without_parent t (e ∷ es) rows =
    without_parent t es (if is_child t e then fin.insert rows (kind.Token, e.0.1) (orphaned e.1) else rows)
