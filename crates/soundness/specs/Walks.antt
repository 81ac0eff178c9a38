-- A walk over rows, each of which is passed or listed as one in trouble (this project's definition).
use Rattle.std.specs.Prelude.{◌≡◌, ◌≢◌, ◌<◌, ◌≤◌, ◌+◌, ◌++◌, ◌⊎◌, [], ℕ, List, All, Contains, length, slice_index_or}
use Rattle.broker_model.specs.Words.{Text, Kind, Row, RowKey, Table, table_of, Rows}
use Rattle.records.specs.Words.{rows_upto}
use Rattle.soundness.specs.declared.trouble.Trouble.{Trouble}
use Rattle.soundness.specs.declared.visiting.Walk.{Walk}
use Rattle.soundness.specs.Broken.{Breaks}
use Rattle.soundness.specs.Notes.{AreApart, AreTrue, GoesOnFrom, IsEntry, IsFresh, Spares}
use Rattle.soundness.specs.SoundRows.{Places}
use Rattle.soundness.specs.Visiting.{EachEnds, IsPassed, noted}

-- ---- what is told of rows

-- so many rows of its kind there are up to the key, in the order of their keys
abbrev pub number_of : Rows → Kind → Text → ℕ
number_of rows k q = length (rows_upto rows k [] q)

-- the row that a trouble names breaks the rule that it names, and is that of its kind with the number
pub record Tells (rows : Rows) (t : Trouble) : Type 0 where
  pub breaks : Breaks (table_of rows) t
  pub number : t.number ≡ number_of rows t.kind t.key

-- a trouble of the list is that of the row at a key
abbrev pub IsListed : List Trouble → RowKey → Type 0
IsListed ts key = (t : Trouble) × Contains ts t × (t.kind ≡ key.0) × (t.key ≡ key.1)

-- the row keeps the rules, by what was noted of others when it was passed
abbrev pub WasPassed : Table → RowKey × Row → Type 0
WasPassed rows e = (identifiers : Places) × ((origins : Places) × IsPassed rows identifiers origins e)

-- ---- rows to be visited

-- the entry is the row of its kind with the number
pub record IsNumbered (rows : Rows) (number : ℕ) (e : RowKey × Row) : Type 0 where
  pub is_row : IsEntry (table_of rows) e
  pub place : number ≡ number_of rows e.0.0 e.0.1

-- entries are rows, each once, that follow so many others of their kind
pub record CanBeWalked (rows : Rows) (before : ℕ) (es : List (RowKey × Row)) : Type 0 where
  pub numbered : (i : ℕ) (d : RowKey × Row) → i < length es
      → IsNumbered rows (before + i + 1) (slice_index_or es i d)
  pub apart : AreApart (λ e. e.0) es

-- the entry is a row of the kind
abbrev pub IsOfKind : Rows → Kind → RowKey × Row → Type 0
IsOfKind rows k e = IsEntry (table_of rows) e × (e.0.0 ≡ k)

-- or of one of the kinds
abbrev pub IsOfKinds : Rows → List Kind → RowKey × Row → Type 0
IsOfKinds rows ks e = IsEntry (table_of rows) e × Contains ks e.0.0

-- ---- the walk

-- no key is that of one of the rows
abbrev pub IsApartFrom : (RowKey × Row → Type 0) → RowKey → Type 0
IsApartFrom Has key = (e : RowKey × Row) → Has e → key ≢ e.0

-- The walk went on over these rows. If it lists fewer than those at which it stops, each of them is listed or was
-- passed; and if it lists none, all were passed, by what it notes at last.
pub record Walked (rows : Rows) (Has : RowKey × Row → Type 0) (old new : Walk) : Type 0 where
  pub rooted : new.notes.rooted ≡ old.notes.rooted
  pub most : new.most ≡ old.most
  pub few : length old.troubles.items ≤ old.most → length new.troubles.items ≤ old.most
  pub at_end : (more : List Trouble) × (new.troubles.items ≡ old.troubles.items ++ more)
  pub spares : Spares (table_of rows) (IsApartFrom Has) old.notes new.notes
  pub tells : AreTrue (table_of rows) old.notes → ((e : RowKey × Row) → Has e → IsFresh old.notes e.0)
      → All (Tells rows) old.troubles.items → All (Tells rows) new.troubles.items
  pub each : EachEnds (table_of rows) old.notes.rooted → length new.troubles.items < old.most
      → (e : RowKey × Row) → Has e → IsListed new.troubles.items e.0 ⊎ WasPassed (table_of rows) e
  pub passed : EachEnds (table_of rows) old.notes.rooted → 0 < old.most → new.troubles.items ≡ []
      → GoesOnFrom old.notes new.notes × ((e : RowKey × Row) → Has e
      → IsPassed (table_of rows) (noted new.notes.identifiers) (noted new.notes.origins) e)
