use Rattle.broker_model.specs.Words.{refl}
use Rattle.ram_disk.specs.CleanLaws.{always_clean}
use Rattle.broker_sql.proofs.sql_store.SqlStore+FileStore+RamFile.in_memory.Goals as goal

pub returns-clause-ready : goal.returns-clause-ready
returns-clause-ready c = record {
  honest = always_clean (λ _. refl) c.in_ok-records.records.conn;
  open_still = c.in_ok-records.ensures.ready;
}
