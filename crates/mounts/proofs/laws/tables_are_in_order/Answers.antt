use Rattle.mounts.proofs.Tables.{in_order}
use Rattle.mounts.proofs.laws.tables_are_in_order.Goals as goal

pub returns : goal.returns
returns c type = in_order type
