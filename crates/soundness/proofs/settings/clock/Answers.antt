use Rattle.broker_model.specs.Words.{refl, IsMoment, clock_row}
use Rattle.soundness.proofs.ReadLemmas.{unread}
use Rattle.soundness.proofs.settings.clock.Goals as goal

pub returns-in-Err-clause-broken : goal.returns-in-Err-clause-broken
returns-in-Err-clause-broken c = λ rows. unread IsMoment clock_row c.args.row.now _ c.in-Err.ensures _ refl
