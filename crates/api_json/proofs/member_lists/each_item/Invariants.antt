use Rattle.std.proofs.Common.{◌≡◌, drop}
use Rattle.serde_json.specs.View.{items_view}
use Rattle.api_json.specs.Kinds as kinds
use Rattle.api_json.proofs.Gathering.{onto}
use Rattle.api_json.proofs.member_lists.each_item.Given as goal

abbrev pub invariant-loop-item : goal.invariant-loop-item
invariant-loop-item g l =
    let kind = g.X.FromMember.kind in
    onto l.list.items (kinds.each_item kind (items_view (drop l.item-index l.item-items)))
    ≡ kinds.each_item kind (items_view l.item-items)
