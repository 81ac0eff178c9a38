use Rattle.histories.proofs.Settings.{settings_follow}
use Rattle.histories.proofs.laws.settings_follow.Goals as goal

pub returns : goal.returns
returns c = settings_follow c.operations_do_as_told.ensures
