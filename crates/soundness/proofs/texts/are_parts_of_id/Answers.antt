use Rattle.broker_model.specs.Words.{sym, ◌∙◌}
use Rattle.soundness.proofs.AnswerLemmas.{on_true, from_true}
use Rattle.soundness.proofs.texts.are_parts_of_id.Goals as goal

pub returns-clause-sound : goal.returns-clause-sound
returns-clause-sound c = on_true c.is_identifier.result (λ good. (
  sym c.is_mount_name.ensures ∙ c.if-not-is_mount_name.false,
  sym c.is_name.ensures ∙ c.if-not-is_name.false,
  from_true c.is_identifier.result good c.is_identifier.ensures.sound,
))
