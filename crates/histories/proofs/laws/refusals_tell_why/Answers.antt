use Rattle.histories.proofs.WhyRefused.{tell_why}
use Rattle.histories.proofs.laws.refusals_tell_why.Goals as goal

pub returns : goal.returns
returns c = tell_why c.policies_decide.ensures
