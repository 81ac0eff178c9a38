-- What contracts see of the rows in a database between transactions (this project's definition).
use Rattle.std.specs.Prelude.{is_some}
use Rattle.sqlite_trees.specs.declared.store.Store as store
use Rattle.sqlite.specs.Held.{state}
use Rattle.records.specs.Words.{Kept}
use Rattle.records_sql.specs.declared.sql_records.SqlRecords.{SqlRecords}
use Rattle.records_sql.specs.SqlTable.{is_open, mismatches, rows_of}

-- The rows are those that were committed. A storage that returned other than what was written counts as shut.
abbrev pub kept_records : {S : Type 0} (g : store.Ghosts S) → SqlRecords S g → Kept
kept_records g r =
    record {
      rows = rows_of (state g r.conn).committed.trees;
      mismatches = mismatches (state g r.conn);
      has_failed = is_some r.failure;
      is_open = is_open (state g r.conn);
    }
