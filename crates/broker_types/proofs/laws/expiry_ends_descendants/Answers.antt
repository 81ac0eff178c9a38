use Rattle.broker_types.specs.TreeLaws.{left_outlasts, outlasting_is_left, alive_tree}
use Rattle.broker_types.proofs.laws.expiry_ends_descendants.Goals as goal

pub returns-clause-left : goal.returns-clause-left
returns-clause-left c = left_outlasts

pub returns-clause-outlasting : goal.returns-clause-outlasting
returns-clause-outlasting c = outlasting_is_left

pub returns-clause-tree : goal.returns-clause-tree
returns-clause-tree c = alive_tree
