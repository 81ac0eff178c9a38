use Rattle.broker_model.specs.Words.{refl}
use Rattle.broker_sql.specs.HonestLaws.{always_honest}
use Rattle.broker_sql.proofs.laws.memory_returns_what_was_written.Goals as goal

pub returns-clause-honest : goal.returns-clause-honest
returns-clause-honest c s = always_honest (λ _. refl) s
