use Rattle.broker_types.specs.SpendingLaws.{spend_sound, end_spent_sound}
use Rattle.broker_types.proofs.laws.spending_keeps_soundness.Goals as goal

pub returns-clause-spent : goal.returns-clause-spent
returns-clause-spent c = spend_sound

pub returns-clause-ended : goal.returns-clause-ended
returns-clause-ended c = end_spent_sound
