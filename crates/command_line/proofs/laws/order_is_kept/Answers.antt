use Rattle.command_line.proofs.ArrangingLemmas.{order_kept}
use Rattle.command_line.proofs.laws.order_is_kept.Goals as goal

pub returns : goal.returns
returns c = order_kept
