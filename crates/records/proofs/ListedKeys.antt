-- The children of what is listed.
use Rattle.std.proofs.Common.{◌≡◌, map, sym, ◌∙◌, ap}
use Rattle.records.specs.Words.{Text, T_true, Kind, Row, RowKey, Rows, rows_under, children, children_in_order, named}
use Rattle.records.specs.Words.{listed-sorted, names_are}
use Rattle.records.proofs.ChildrenInOrder.{children_ordered}

-- the children of what is listed are the set of them
pub listed_children : (rows : Rows) (kind : Kind) (under prefix : Text)
    → children_in_order prefix (map (λ (e : RowKey × Row). e.0.1) (rows_under rows kind under))
    ≡ children prefix (map (λ (e : RowKey × Row). e.0.1) (rows_under rows kind under))
listed_children rows kind under prefix =
    let es = rows_under rows kind under in
    ap (children_in_order prefix) (names_are es)
    ∙ children_ordered prefix (named es) (T_true _ (listed-sorted kind under rows))
    ∙ sym (ap (children prefix) (names_are es))
