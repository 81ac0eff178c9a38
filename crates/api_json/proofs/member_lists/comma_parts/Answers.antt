use Rattle.broker_types.specs.Words.{ap, ◌∙◌, lit<, map, filter, YieldsList-from_str_split, YieldsList-end}
use Rattle.api_json.specs.Words.{comma_parts, is_part, without_spaces}
use Rattle.api_json.proofs.member_lists.comma_parts.Goals as goal

pub returns : goal.returns
unfolding comma_parts
returns c =
    let whole = YieldsList-from_str_split {s = c.into_iter-part-iterator.result} 44 c.args.list.now (lit< tt) (cc) (cc)
    (cc) in
    let all = YieldsList-end whole c.loop-part.yielded _ c.loop-part.yielded_by _ _ c.in-None.is c.next.ensures.steps in
    c.new.ensures ∙ c.loop-part.invariant ∙ ap (λ ts. filter is_part (map without_spaces ts)) all.0
