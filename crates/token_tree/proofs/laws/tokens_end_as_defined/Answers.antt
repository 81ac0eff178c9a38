use Rattle.token_tree.specs.Words.{ended_by_revocation, ended_by_revocation_alone, ended_by_now}
use Rattle.token_tree.proofs.laws.tokens_end_as_defined.Goals as goal

pub returns-clause-revoked : goal.returns-clause-revoked
returns-clause-revoked c b t q = ended_by_revocation b t q

pub returns-clause-alone : goal.returns-clause-alone
returns-clause-alone c b t q = ended_by_revocation_alone b t q

pub returns-clause-expired : goal.returns-clause-expired
returns-clause-expired c b now q = ended_by_now b now q
