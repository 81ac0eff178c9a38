use Rattle.records.specs.Words.{ap, ◌∙◌, same, is_text}
use Rattle.records.proofs.children.is_last.Goals as goal

pub returns-in-Some : goal.returns-in-Some
unfolding same
returns-in-Some c =
    c.eq.ensures ∙ ap (λ x. same x c.args.text.now) c.as_str.ensures
    ∙ ap (is_text c.args.text.now) c.in-Some.ensures.value
