use Rattle.broker_types.specs.RemovalLaws.{revoke_sound, revoke_orphan_sound, at_moment_sound}
use Rattle.broker_types.specs.SpendingLaws.{drop_sound}
use Rattle.broker_types.proofs.laws.removals_keep_soundness.Goals as goal

pub returns-clause-revoked : goal.returns-clause-revoked
returns-clause-revoked c = λ forms who b t sound. revoke_sound forms who b sound t

pub returns-clause-revoked_alone : goal.returns-clause-revoked_alone
returns-clause-revoked_alone c = λ forms who b t sound. revoke_orphan_sound forms who b sound t

pub returns-clause-expired : goal.returns-clause-expired
returns-clause-expired c = λ forms who b moment within sound. at_moment_sound forms who b sound moment within

pub returns-clause-dropped : goal.returns-clause-dropped
returns-clause-dropped c = λ forms who b t. drop_sound b t forms who
