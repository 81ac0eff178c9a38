use Rattle.api_client.specs.Words.{Some, sym, ap, ◌∙◌, lit<, fold, YieldsList-from_str_split, YieldsList-end, view}
use Rattle.api_client.specs.Words.{at_path, member_in}
use Rattle.api_client.proofs.FieldLemmas.{one_part_more}
use Rattle.api_client.proofs.field.at_path.Goals as goal

pub loop-part-preserved : goal.loop-part-preserved
loop-part-preserved c =
    let from = Some (view c.args.reply.now) in
    c.member-value.ensures ∙ ap (λ o. member_in o c.in-Some.part.now) c.loop-part.invariant
    ∙ sym (one_part_more from c.loop-part.yielded c.in-Some.part)

pub returns : goal.returns
unfolding at_path
returns c =
    let whole = YieldsList-from_str_split {s = c.into_iter-part-iterator.result} 46 c.args.path.now (lit< tt) (cc)
    (cc) (cc) in
    let all = YieldsList-end whole c.loop-part.yielded _ c.loop-part.yielded_by _ _ c.in-None.is c.next.ensures.steps in
    c.loop-part.invariant ∙ ap (fold member_in (Some (view c.args.reply.now))) all.0
