use Rattle.broker_types.specs.Words.{sym, ap, ◌∙◌, at_drop_more}
use Rattle.api_json.specs.Words.{count_text, each_count}
use Rattle.api_json.proofs.Gathering.{one_more}
use Rattle.api_json.proofs.member_lists.part_counts.Goals as goal

pub loop-part-preserved : goal.loop-part-preserved
loop-part-preserved c =
    let bytes = c.as_bytes.ensures.value ∙ c.as_str.ensures ∙ c.part-item.is in
    one_more c.loop-part.list.items _ c.in-Some.count _ _ _ _ c.in_ok-push-in-Some.ensures.items
    (sym (c.count_text.ensures ∙ ap count_text bytes) ∙ c.in-Some.is)
    (at_drop_more each_count c.args.parts.now c.loop-part.part-index c.part-item.result c.loop-part-test.true)
    c.loop-part.invariant
