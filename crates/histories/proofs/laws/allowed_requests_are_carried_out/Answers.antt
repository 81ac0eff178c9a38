use Rattle.histories.proofs.Allowed.{does_allowed}
use Rattle.histories.proofs.laws.allowed_requests_are_carried_out.Goals as goal

pub returns : goal.returns
returns c =
    let granted = c.granted_as_said.ensures in
    does_allowed c.policies_decide.ensures c.accessors_name_their_tokens.ensures.named granted.all granted.root
