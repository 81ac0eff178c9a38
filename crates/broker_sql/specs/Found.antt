-- What an open finds of a store, if the program stops between requests (this project's definition).
use Rattle.std.specs.Prelude.{◌≡◌, IsTrue}
use Rattle.sqlite_trees.specs.Tree.{Trees}
use Rattle.sqlite_trees.specs.declared.store.Store as store
use Rattle.sqlite.specs.Held.{state}
use Rattle.broker_model.specs.Words.{Rows}
use Rattle.records_sql.specs.Words.{rows_of}
use Rattle.broker_sql.specs.SqlKept.{sql_kept}
use Rattle.broker_sql.specs.declared.sql_store.SqlStore.{SqlStore}

-- an open may find these rows, if the program stops now: those of what its storage may leave
abbrev pub MayFind : {S : Type 0} (g : store.Ghosts S) → SqlStore S g → Rows → Type 0
MayFind g s rows = (db : Trees) × (state g s.records.conn).may_leave db × (rows ≡ rows_of db)

-- it finds the rows that were committed, and no others
pub record FindsItsRows {S : Type 0} (g : store.Ghosts S) (s : SqlStore S g) : Type 0 where
  pub found : MayFind g s (sql_kept g s).rows
  pub only : (rows : Rows) → MayFind g s rows → rows ≡ (sql_kept g s).rows

-- so it is as long as the store can be asked
abbrev pub AllFindTheirRows : {S : Type 0} → store.Ghosts S → Type 0
AllFindTheirRows {S} g = (s : SqlStore S g) → IsTrue (sql_kept g s).is_open → FindsItsRows g s
