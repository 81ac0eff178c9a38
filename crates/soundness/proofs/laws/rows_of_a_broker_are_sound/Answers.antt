use Rattle.soundness.proofs.BrokerWhole.{rules_kept}
use Rattle.soundness.proofs.laws.rows_of_a_broker_are_sound.Goals as goal

pub returns : goal.returns
returns c = λ rows broker. rules_kept rows broker.0 broker.1
