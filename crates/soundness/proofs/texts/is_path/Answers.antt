use Rattle.broker_model.specs.Words.{sym, ◌∙◌, ap, false≢true, bytes_eq-Decides, is_path}
use Rattle.soundness.proofs.TextWhole.{path_whole}
use Rattle.soundness.proofs.texts.is_path.Goals as goal

pub returns-in-Ok-clause-whole : goal.returns-in-Ok-clause-whole
returns-in-Ok-clause-whole c = λ s.
    c.eq.ensures
    ∙ (bytes_eq-Decides c.as_str.result.now c.args.text.now).1
    (c.as_str.ensures.text ∙ c.in-Ok.ensures.0 ∙ path_whole c.args.text.now s.good)

pub returns-in-Err-clause-whole : goal.returns-in-Err-clause-whole
returns-in-Err-clause-whole c = λ s.
    absurd (false≢true (sym c.in-Err.ensures.1 ∙ ap is_path (path_whole c.args.text.now s.good) ∙ s.good))
