use Rattle.histories.proofs.SecretsStay.{secrets_stay}
use Rattle.histories.proofs.laws.versions_stay.Goals as goal

pub returns : goal.returns
returns c = secrets_stay c.operations_do_as_told.ensures
