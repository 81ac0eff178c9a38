use Rattle.histories.proofs.Callers.{serves_allowed}
use Rattle.histories.proofs.laws.only_allowed_requests_are_served.Goals as goal

pub returns : goal.returns
returns c = serves_allowed c.policies_decide.ensures
