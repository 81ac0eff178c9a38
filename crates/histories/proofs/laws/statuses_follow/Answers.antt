use Rattle.histories.proofs.Statuses.{statuses_follow}
use Rattle.histories.proofs.laws.statuses_follow.Goals as goal

pub returns : goal.returns
returns c = statuses_follow
