use Rattle.histories.proofs.VersionsFollow.{versions_follow}
use Rattle.histories.proofs.laws.versions_follow.Goals as goal

pub returns : goal.returns
returns c = versions_follow c.operations_do_as_told.ensures
