use Rattle.records.proofs.Determined.{same_broker}
use Rattle.records.proofs.laws.rows_determine_the_broker.Goals as goal

pub returns : goal.returns
returns c = same_broker
