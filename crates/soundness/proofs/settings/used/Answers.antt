use Rattle.soundness.proofs.AnswerLemmas.{from_true}
use Rattle.broker_model.specs.Words.{refl, ⊤, used_row}
use Rattle.soundness.proofs.ReadLemmas.{unread, fails}
use Rattle.soundness.proofs.settings.used.Goals as goal

pub returns-in-Ok-clause-sound : goal.returns-in-Ok-clause-sound
returns-in-Ok-clause-sound c = (
  tt,
  from_true c.is_identifier.result c.if-not-is_identifier.false c.is_identifier.ensures.sound,
  c.in-Ok.ensures.exact.1,
)

pub returns-then-not-is_identifier-clause-broken : goal.returns-then-not-is_identifier-clause-broken
returns-then-not-is_identifier-clause-broken c = λ rows.
    fails c.is_identifier.result c.if-not-is_identifier.true c.is_identifier.ensures.whole

pub returns-in-Err-clause-broken : goal.returns-in-Err-clause-broken
returns-in-Err-clause-broken c = λ rows is.
    unread {X = ⊤} (λ _. ⊤) (λ _. used_row) c.args.row.now _ c.in-Err.ensures _ refl (tt, tt, is)
