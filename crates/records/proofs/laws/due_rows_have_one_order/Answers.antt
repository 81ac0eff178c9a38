use Rattle.records.proofs.DueOrder.{due_in_one_order}
use Rattle.records.proofs.laws.due_rows_have_one_order.Goals as goal

pub returns : goal.returns
returns c = due_in_one_order
