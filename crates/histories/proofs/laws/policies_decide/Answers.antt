use Rattle.histories.proofs.Refused.{policies_decide}
use Rattle.histories.proofs.laws.policies_decide.Goals as goal

pub returns : goal.returns
returns c = policies_decide
