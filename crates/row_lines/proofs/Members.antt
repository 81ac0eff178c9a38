-- How many members and items there are.
use Rattle.std.proofs.Common.{◌≡◌, ◌∷◌, List, [], suc, length, refl, ap, String}
use Rattle.std.specs.declared.alloc.Global.{Global}
use Rattle.serde_json.specs.Data.{Data}
use Rattle.serde_json.specs.View.{view, items_of, items_view, members_of, members_view}
use Rattle.serde_json.specs.declared.value.Value.{Value}
use Rattle.row_lines.specs.Spelled.{count_items, count_members}

pub count_of_members : (ms : List (String Global × Value)) → count_members (members_view ms) ≡ length ms
count_of_members [] = refl
count_of_members (m ∷ ms) = ap suc (count_of_members ms)

pub count_of_items : (vs : List Value) → count_items (items_view vs) ≡ length vs
count_of_items [] = refl
count_of_items (v ∷ vs) = ap suc (count_of_items vs)
