use Rattle.broker_types.specs.LineageLaws.{is_under_trans}
use Rattle.broker_types.specs.TreeLaws.{lineage_none, lineage_orphan, lineage_child, under_self, under_tokens}
use Rattle.broker_types.proofs.laws.lineages_climb.Goals as goal

pub returns-clause-unknown : goal.returns-clause-unknown
returns-clause-unknown c = lineage_none

pub returns-clause-orphan : goal.returns-clause-orphan
returns-clause-orphan c = lineage_orphan

pub returns-clause-child : goal.returns-clause-child
returns-clause-child c = lineage_child

pub returns-clause-itself : goal.returns-clause-itself
returns-clause-itself c = under_self

pub returns-clause-transitive : goal.returns-clause-transitive
returns-clause-transitive c = is_under_trans

pub returns-clause-tokens : goal.returns-clause-tokens
returns-clause-tokens c = under_tokens
