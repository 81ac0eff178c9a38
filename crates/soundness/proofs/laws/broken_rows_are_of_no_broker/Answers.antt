use Rattle.soundness.proofs.BrokenRows.{of_no_broker}
use Rattle.soundness.proofs.laws.broken_rows_are_of_no_broker.Goals as goal

pub returns : goal.returns
returns c = of_no_broker c.rows_of_a_broker_are_sound.ensures
