use Rattle.broker_types.specs.TreeLaws.{orphan_unknown, orphan_gone, orphan_child, orphan_unrelated, orphan_none}
use Rattle.broker_types.specs.TreeLaws.{orphan_tree}
use Rattle.broker_types.proofs.laws.revocation_orphans_children.Goals as goal

pub returns-clause-unknown : goal.returns-clause-unknown
returns-clause-unknown c = orphan_unknown

pub returns-clause-gone : goal.returns-clause-gone
returns-clause-gone c = orphan_gone

pub returns-clause-children : goal.returns-clause-children
returns-clause-children c = orphan_child

pub returns-clause-others : goal.returns-clause-others
returns-clause-others c = orphan_unrelated

pub returns-clause-none_new : goal.returns-clause-none_new
returns-clause-none_new c = orphan_none

pub returns-clause-tree : goal.returns-clause-tree
returns-clause-tree c = orphan_tree
