use Rattle.histories.proofs.Disabled.{leases_stay_revoked}
use Rattle.histories.proofs.laws.leases_stay_revoked.Goals as goal

pub returns : goal.returns
returns c = leases_stay_revoked c.operations_do_as_told.ensures
