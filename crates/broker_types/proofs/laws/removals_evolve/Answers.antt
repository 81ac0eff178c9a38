use Rattle.broker_types.specs.RemovalLaws.{revoke_evolves, revoke_orphan_evolves, at_moment_evolves}
use Rattle.broker_types.specs.SpendingLaws.{spend_evolves, end_spent_evolves, drop_evolves}
use Rattle.broker_types.proofs.laws.removals_evolve.Goals as goal

pub returns-clause-revoked : goal.returns-clause-revoked
returns-clause-revoked c = revoke_evolves

pub returns-clause-revoked_alone : goal.returns-clause-revoked_alone
returns-clause-revoked_alone c = revoke_orphan_evolves

pub returns-clause-expired : goal.returns-clause-expired
returns-clause-expired c = at_moment_evolves

pub returns-clause-spent : goal.returns-clause-spent
returns-clause-spent c = spend_evolves

pub returns-clause-ended : goal.returns-clause-ended
returns-clause-ended c = end_spent_evolves

pub returns-clause-dropped : goal.returns-clause-dropped
returns-clause-dropped c = drop_evolves
