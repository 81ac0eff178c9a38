-- A store over files that never return other than what was written (this project's).
use Rattle.broker_model.specs.Words.{IsTrue, IsHonestStore}
use Rattle.sqlite_disk.specs.declared.Disk.{Ghosts}
use Rattle.sqlite_store.specs.declared.store.FileStore.{FileStore}
use Rattle.sqlite.specs.Files.{over_files}
use Rattle.ram_disk.specs.CleanLaws.{always_clean}
use Rattle.broker_sql.specs.SqlKept.{sql_kept}
use Rattle.broker_sql.specs.declared.sql_store.SqlStore.{SqlStore}

pub always_honest : {D : Type 0} {g : Ghosts D} → ((file : D) → IsTrue (g.is_clean file))
    → (s : SqlStore (FileStore D g) over_files) → IsHonestStore (sql_kept over_files s)
always_honest clean s = always_clean clean s.records.conn
