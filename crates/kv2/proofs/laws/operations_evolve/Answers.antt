use Rattle.kv2.specs.Words.{secrets_evolve, settings_evolve}
use Rattle.kv2.proofs.laws.operations_evolve.Goals as goal

pub returns-clause-secrets : goal.returns-clause-secrets
returns-clause-secrets c b secrets = secrets_evolve b secrets

pub returns-clause-settings : goal.returns-clause-settings
returns-clause-settings c b mounts = settings_evolve b mounts
