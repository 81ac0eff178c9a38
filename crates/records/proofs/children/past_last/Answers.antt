use Rattle.std.proofs.Common.{◌≡◌, ◌++◌, ap, ◌∙◌}
use Rattle.records.specs.Words.{none-some, same_Some, IfOk-weaker, past}
use Rattle.records.proofs.children.past_last.Goals as goal

pub returns-in-None : goal.returns-in-None
returns-in-None c name is = absurd (none-some name (c.in-None.ensures.value ∙ is))

pub returns-in-Some : goal.returns-in-Some
returns-in-Some c name is =
    let last : c.in-Some.name.now ≡ name = same_Some _ _ (c.in-Some.ensures.value ∙ is) in
    IfOk-weaker c.past_child.result _ _ (λ text e. e ∙ ap (λ n. c.args.prefix.now ++ past n) (c.as_str.ensures ∙ last))
    c.past_child.ensures
