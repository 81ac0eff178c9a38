use Rattle.std.proofs.Common.{◌∷◌, ap, ◌∙◌, lit<, []}
use Rattle.std.specs.Prelude.{bytes_eq}
use Rattle.std.specs.List.{list_any}
use Rattle.broker_types.specs.Words.{YieldsList-from_str_split, YieldsList-end}
use Rattle.command_line.proofs.policy_form.has_plus.Goals as goal

pub returns : goal.returns
returns c =
    let whole = YieldsList-from_str_split {s = c.into_iter-part-iterator.result} 47 c.args.pattern.now (lit< tt) (cc)
    (cc) (cc) in
    let all = YieldsList-end whole c.loop-part.yielded _ c.loop-part.yielded_by _ _ c.in-None.is c.next.ensures.steps in
    c.loop-part.invariant ∙ ap (list_any (λ part. bytes_eq part (43 ∷ []))) all.0
