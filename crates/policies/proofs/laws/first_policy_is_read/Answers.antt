use Rattle.policies.specs.Words.{first_policy}
use Rattle.policies.proofs.laws.first_policy_is_read.Goals as goal

pub returns : goal.returns
returns c = first_policy
