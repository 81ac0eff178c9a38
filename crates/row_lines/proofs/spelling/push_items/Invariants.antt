use Rattle.std.proofs.Common.{◌≡◌, drop}
use Rattle.serde_json.specs.View.{items_view}
use Rattle.row_lines.specs.Spelled.{onto, spelled_items}
use Rattle.row_lines.proofs.spelling.push_items.Given as goal

abbrev pub invariant-loop-item : goal.invariant-loop-item
invariant-loop-item l = onto l.body (spelled_items (items_view (drop l.item-index l.item-items)))
    ≡ onto l.initial.body (spelled_items (items_view l.item-items))
