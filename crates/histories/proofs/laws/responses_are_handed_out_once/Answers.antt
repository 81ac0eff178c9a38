use Rattle.histories.proofs.KeptReplies.{hands_out_once}
use Rattle.histories.proofs.laws.responses_are_handed_out_once.Goals as goal

pub returns : goal.returns
returns c = hands_out_once c.operations_do_as_told.ensures
