use Rattle.histories.proofs.KeptStay.{kept_responses_stay}
use Rattle.histories.proofs.laws.kept_responses_stay.Goals as goal

pub returns : goal.returns
returns c = kept_responses_stay c.operations_do_as_told.ensures
