use Rattle.histories.proofs.TokenGiven.{made_as_allowed}
use Rattle.histories.proofs.laws.tokens_are_made_as_allowed.Goals as goal

pub returns : goal.returns
returns c =
    let granted = c.granted_as_said.ensures in
    made_as_allowed c.operations_do_as_told.ensures granted.only granted.all granted.root
    c.paths_mean_their_commands.ensures.creations
