use Rattle.records.specs.Words.{refl}
use Rattle.broker_sql.specs.HonestLaws.{always_honest}
use Rattle.broker_server.proofs.starting.serve_new.Goals as goal

-- memory returns what was written
pub start_and_serve-requires-clause-always : goal.start_and_serve-requires-clause-always
start_and_serve-requires-clause-always c = always_honest (λ _. refl)
