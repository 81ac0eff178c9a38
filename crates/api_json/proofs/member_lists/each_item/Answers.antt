use Rattle.std.proofs.Common.{◌+◌, sym, ap, ◌∙◌, drop, get_or}
use Rattle.broker_types.specs.Words.{at_drop_more}
use Rattle.serde_json.specs.View.{view, items_view}
use Rattle.api_json.specs.Kinds as kinds
use Rattle.api_json.proofs.Gathering.{one_more}
use Rattle.api_json.proofs.member_lists.each_item.Goals as goal

pub loop-item-preserved : goal.loop-item-preserved
loop-item-preserved g c =
    let kind = g.X.FromMember.kind in
    let items = c.deref-item-items.result.now in
    let i = c.loop-item.item-index in
    let item = get_or items i c.item-item.result in
    one_more c.loop-item.list.items c.push.new.self.items c.in-Some.value (kind (view item))
    (kinds.each_item kind (items_view (drop (i + 1) items))) (kinds.each_item kind (items_view (drop i items)))
    (kinds.each_item kind (items_view items)) c.in_ok-push-in-Some.ensures.items
    (ap (λ v. kind (view v)) (sym c.item-item.is) ∙ sym c.in_ok-value.ensures ∙ c.in-Some.is)
    (at_drop_more (λ vs. kinds.each_item kind (items_view vs)) items i c.item-item.result c.loop-item-test.true)
    c.loop-item.invariant
