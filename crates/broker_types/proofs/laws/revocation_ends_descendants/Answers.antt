use Rattle.broker_types.specs.LineageLaws.{revoke_unknown, revoke_under, revoke_other}
use Rattle.broker_types.specs.TreeLaws.{revoke_tree}
use Rattle.broker_types.proofs.laws.revocation_ends_descendants.Goals as goal

pub returns-clause-unknown : goal.returns-clause-unknown
returns-clause-unknown c = revoke_unknown

pub returns-clause-gone : goal.returns-clause-gone
returns-clause-gone c = revoke_under

pub returns-clause-others : goal.returns-clause-others
returns-clause-others c = revoke_other

pub returns-clause-tree : goal.returns-clause-tree
returns-clause-tree c = revoke_tree
