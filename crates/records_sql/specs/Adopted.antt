-- The rows of the broker in a database that was there before (this project's definition).
use Rattle.std.specs.Prelude.{◌≡◌, ◌⊎◌, IsTrue}
use Rattle.std.specs.FinMap as map
use Rattle.sqlite.specs.Tree.{Trees}
use Rattle.sqlite.specs.Recovery.{Image}
use Rattle.sqlite.specs.Effect.{Database, IsDatabase}
use Rattle.sqlite.specs.State.{State}
use Rattle.sqlite.specs.Files.{HoldsDatabase, AreFoundIn}
use Rattle.records.specs.Words.{Rows}
use Rattle.records_sql.specs.SqlTable.{IsStore, no_schema, rows_of}

-- Those of its table, which has no other row than this crate writes; none where the database has no table at all. Every
-- other database has none of the broker's rows, and is not adopted.
abbrev pub HasRows : Database → Rows → Type 0
HasRows db rows = ((db.schema ≡ no_schema) × (rows ≡ map.empty)) ⊎ (IsStore db × (rows ≡ rows_of db.trees))

-- A database that is open between transactions shows what was committed.
abbrev pub IsSettled : State → Type 0
IsSettled s = IsTrue s.is_open → s.now ≡ s.committed

-- The connection has the table, with the rows that its database had.
pub record IsAdopted (old new : State) : Type 0 where
  pub has : HasRows old.committed (rows_of new.committed.trees)
  pub now : IsStore new.now
  pub committed : IsStore new.committed
  pub is_open : IsTrue new.is_open

-- Two files, a database and its log, keep these rows: they hold a database that has them, or none yet.
pub record IsKeptIn (image : Image) (rows : Rows) : Type 0 where
  pub db : Database
  pub held : (trees : Trees) → HoldsDatabase image trees → db.trees ≡ trees
  pub found : AreFoundIn image db.trees
  pub sound : IsDatabase db
  pub has : HasRows db rows
