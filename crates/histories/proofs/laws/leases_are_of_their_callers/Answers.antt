use Rattle.histories.proofs.TokenLaws.{leases_are_of_callers}
use Rattle.histories.proofs.laws.leases_are_of_their_callers.Goals as goal

pub returns : goal.returns
returns c = leases_are_of_callers c.operations_do_as_told.ensures
