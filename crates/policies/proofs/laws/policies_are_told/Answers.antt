use Rattle.policies.specs.Words.{policies_told, told_policies}
use Rattle.policies.proofs.laws.policies_are_told.Goals as goal

pub returns : goal.returns
returns c rows b = (policies_told rows b, told_policies rows b)
