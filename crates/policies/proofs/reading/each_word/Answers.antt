use Rattle.std.proofs.Common.{◌+◌, sym, ap, ◌∙◌, drop, get_or}
use Rattle.records.specs.Words.{at_drop_more}
use Rattle.serde_json.specs.View.{view, items_view}
use Rattle.api_json.specs.Words.{each_item}
use Rattle.policies.specs.Words.{word}
use Rattle.api_json.proofs.Gathering.{one_more}
use Rattle.policies.proofs.reading.each_word.Goals as goal

pub loop-item-preserved : goal.loop-item-preserved
loop-item-preserved c =
    let items = c.deref-item-items.result.now in
    let i = c.loop-item.item-index in
    let next = get_or items i c.item-item.result in
    one_more c.loop-item.words.items c.push.new.self.items c.in-Some.word (word (view next))
    (each_item word (items_view (drop (i + 1) items))) (each_item word (items_view (drop i items)))
    (each_item word (items_view items)) c.in_ok-push-in-Some.ensures.items
    (ap (λ v. word (view v)) (sym c.item-item.is) ∙ sym c.word.ensures ∙ c.in-Some.is)
    (at_drop_more (λ vs. each_item word (items_view vs)) items i c.item-item.result c.loop-item-test.true)
    c.loop-item.invariant
