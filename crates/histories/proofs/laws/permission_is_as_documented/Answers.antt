use Rattle.histories.proofs.Documented.{as_documented}
use Rattle.histories.proofs.laws.permission_is_as_documented.Goals as goal

pub returns : goal.returns
returns c = as_documented
