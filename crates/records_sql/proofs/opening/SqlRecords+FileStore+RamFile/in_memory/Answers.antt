use Rattle.records.specs.Words.{refl, arith, IfOk-weaker}
use Rattle.sqlite.specs.Files.{file_state}
use Rattle.ram_disk.specs.CleanLaws.{always_clean}
use Rattle.records_sql.proofs.AdoptLemmas.{none_found}
use Rattle.records_sql.proofs.opening.SqlRecords+FileStore+RamFile.in_memory.Goals as goal

pub returns-clause-empty : goal.returns-clause-empty
returns-clause-empty c =
    let was = file_state c.in-Ok.conn in
    IfOk-weaker c.adopt.result _ _ (λ records found. none_found was.committed _
    (c.in-Ok.ensures.empty.0 0 (omega arith)) (found (always_clean (λ _. refl) records.conn))) c.adopt.ensures.found

pub returns-clause-ready : goal.returns-clause-ready
returns-clause-ready c =
    IfOk-weaker c.adopt.result _ _ (λ records usable. usable (always_clean (λ _. refl) records.conn))
    c.adopt.ensures.usable
