use Rattle.policies.proofs.Granted.{only_granted, all_granted, root_may}
use Rattle.policies.proofs.laws.granted_as_said.Goals as goal

pub returns-clause-only : goal.returns-clause-only
returns-clause-only c = only_granted

pub returns-clause-all : goal.returns-clause-all
returns-clause-all c = all_granted

pub returns-clause-root : goal.returns-clause-root
returns-clause-root c = root_may
