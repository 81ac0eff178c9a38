use Rattle.broker_types.specs.RemovalLaws.{revoke_ends, revoke_orphan_ends, at_moment_ends}
use Rattle.broker_types.specs.SpendingLaws.{end_spent_ends}
use Rattle.broker_types.proofs.laws.removals_end_tokens.Goals as goal

pub returns-clause-revoked : goal.returns-clause-revoked
returns-clause-revoked c = λ b t sound. revoke_ends b sound t

pub returns-clause-revoked_alone : goal.returns-clause-revoked_alone
returns-clause-revoked_alone c = λ b t sound. revoke_orphan_ends b sound t

pub returns-clause-expired : goal.returns-clause-expired
returns-clause-expired c = λ b moment sound. at_moment_ends b sound moment

pub returns-clause-spent : goal.returns-clause-spent
returns-clause-spent c = end_spent_ends
