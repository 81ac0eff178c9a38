-- What contracts see of a store in a database (this project's definition).
use Rattle.sqlite_trees.specs.declared.store.Store as store
use Rattle.broker_model.specs.Words.{Kept, IsHonestStore}
use Rattle.records_sql.specs.Words.{kept_records}
use Rattle.broker_sql.specs.declared.sql_store.SqlStore.{SqlStore}

abbrev pub sql_kept : {S : Type 0} (g : store.Ghosts S) → SqlStore S g → Kept
sql_kept g s = kept_records g s.records

-- a storage that never returns other than what was written, as memory
abbrev pub ReturnsWhatWasWritten : {S : Type 0} → store.Ghosts S → Type 0
ReturnsWhatWasWritten {S} g = (s : SqlStore S g) → IsHonestStore (sql_kept g s)
