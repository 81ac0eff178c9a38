-- How the notes of a walk go on, and what they hold (this project's definition).
use Rattle.std.specs.Prelude.{◌≡◌, ◌≢◌, ◌<◌, ◌⊎◌, ℕ, List, length, slice_index_or, Some, None}
use Rattle.broker_model.specs.Words.{Text, id, Waiting, Kind, Row, RowKey, IsWaitingInRange, waiting_row, Table}
use Rattle.records.specs.declared.kind.Kind.TheVariants as kind
use Rattle.soundness.specs.declared.trouble.Rule.{Rule}
use Rattle.soundness.specs.declared.trouble.Rule.TheVariants as rule
use Rattle.soundness.specs.declared.visiting.Notes.{Notes}
use Rattle.soundness.specs.Broken.{HasIdentifier}
use Rattle.soundness.specs.Chains.{HasEachRooted}
use Rattle.soundness.specs.RowRules.{IsOf}
use Rattle.soundness.specs.SoundRows.{Places}
use Rattle.soundness.specs.Visiting.{Grows, noted}

-- each row that was noted still is, and the tokens whose chains end are the same
pub record GoesOnFrom (old new : Notes) : Type 0 where
  pub rooted : new.rooted ≡ old.rooted
  pub identifiers : Grows (noted old.identifiers) (noted new.identifiers)
  pub origins : Grows (noted old.origins) (noted new.origins)

-- ---- what is noted of a row

-- the row has the origin
abbrev pub HasOrigin : Kind → Row → Text → Type 0
HasOrigin kind.Waiting row i = IsOf waiting_row (λ (w : Waiting). IsWaitingInRange w × (w.origin ≡ i)) row
HasOrigin _ row i = ⊥

-- no more is noted than one row, under words of what it has
abbrev pub AddsOnly : (Text → Type 0) → RowKey → Places → Places → Type 0
AddsOnly Has key old new =
    (word : ℕ) (other : RowKey) → new word ≡ Some other
    → (old word ≡ Some other) ⊎ ((other ≡ key) × Has (id word))

-- why the row is not noted: its key is none of its kind, or what it has is not marked as given out, or a row was noted
-- to have it
abbrev pub StopsNoting : Table → Places → Type 0 → (Text → Type 0) → Rule → Type 0
StopsNoting rows places IsKey Has rule.Key = IsKey → ⊥
StopsNoting rows places IsKey Has rule.Mark = (i : Text) × Has i × (rows kind.Used i ≡ None)
StopsNoting rows places IsKey Has rule.Place =
    (word : ℕ) × Has (id word) × ((other : RowKey) × (places word ≡ Some other))
StopsNoting rows places IsKey Has _ = ⊥

-- ---- what is noted of rows

-- rows that are there are noted, by the words of their identifiers
abbrev pub AreNotedIdentifiers : Table → Places → Type 0
AreNotedIdentifiers rows places =
    (word : ℕ) (key : RowKey) → places word ≡ Some key
    → (rows key.0 key.1 ≢ None) × HasIdentifier key.0 key.1 (id word)

-- and by the words of their origins
abbrev pub AreNotedOrigins : Table → Places → Type 0
AreNotedOrigins rows places =
    (word : ℕ) (key : RowKey) → places word ≡ Some key
    → (row : Row) × (rows key.0 key.1 ≡ Some row) × HasOrigin key.0 row (id word)

-- the row at the key is not noted
abbrev pub IsNotNoted : Places → RowKey → Type 0
IsNotNoted places key = (word : ℕ) → places word ≢ Some key

-- no rows are noted but such, and each token whose chain ends is known
pub record AreTrue (rows : Table) (n : Notes) : Type 0 where
  pub rooted : HasEachRooted rows n.rooted
  pub identifiers : AreNotedIdentifiers rows (noted n.identifiers)
  pub origins : AreNotedOrigins rows (noted n.origins)

-- the row at the key is noted nowhere
pub record IsFresh (n : Notes) (key : RowKey) : Type 0 where
  pub identifiers : IsNotNoted (noted n.identifiers) key
  pub origins : IsNotNoted (noted n.origins) key

-- notes stay true, and none of these rows is noted
pub record Spares (rows : Table) (Others : RowKey → Type 0) (old new : Notes) : Type 0 where
  pub stay_true : AreTrue rows old → AreTrue rows new
  pub fresh : (key : RowKey) → Others key → IsFresh old key → IsFresh new key

-- ---- rows to be visited

-- no two of a list have the same
abbrev pub AreApart : {X Y : Type 0} → (X → Y) → List X → Type 0
AreApart {X} f xs =
    (i j : ℕ) (d e : X) → i < j → j < length xs → f (slice_index_or xs i d) ≢ f (slice_index_or xs j e)

-- the entry is a row that is there
abbrev pub IsEntry : Table → RowKey × Row → Type 0
IsEntry rows e = rows e.0.0 e.0.1 ≡ Some e.1
