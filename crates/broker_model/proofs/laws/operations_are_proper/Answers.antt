use Rattle.broker_model.specs.Words.{are_proper}
use Rattle.broker_model.proofs.laws.operations_are_proper.Goals as goal

pub returns : goal.returns
returns c = are_proper c.operations_do_as_told.ensures
