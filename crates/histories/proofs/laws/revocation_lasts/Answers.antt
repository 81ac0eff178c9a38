use Rattle.histories.proofs.RevocationLasts.{revocation}
use Rattle.histories.proofs.laws.revocation_lasts.Goals as goal

pub returns : goal.returns
returns c = revocation c.operations_do_as_told.ensures
