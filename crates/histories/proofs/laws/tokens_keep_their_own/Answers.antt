use Rattle.histories.proofs.OwnStays.{own_stays}
use Rattle.histories.proofs.laws.tokens_keep_their_own.Goals as goal

pub returns : goal.returns
returns c = own_stays c.operations_do_as_told.ensures
