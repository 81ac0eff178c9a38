use Rattle.policies.proofs.Granted.{nothing_without, any_order, others_are_free, absent_grant_nothing}
use Rattle.policies.proofs.laws.only_the_callers_policies.Goals as goal

pub returns-clause-none : goal.returns-clause-none
returns-clause-none c = nothing_without

pub returns-clause-order : goal.returns-clause-order
returns-clause-order c policies names others v path capability moved =
    any_order policies names others moved v path capability

pub returns-clause-others : goal.returns-clause-others
returns-clause-others c = others_are_free

pub returns-clause-absent : goal.returns-clause-absent
returns-clause-absent c = absent_grant_nothing
