use Rattle.histories.proofs.Disabled.{disabled_mounts_go}
use Rattle.histories.proofs.laws.disabled_mounts_leave_nothing.Goals as goal

pub returns : goal.returns
returns c = disabled_mounts_go c.operations_do_as_told.ensures
