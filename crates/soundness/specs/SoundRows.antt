-- Rows that are those of a sound broker, by rules for single rows, and for rows that share an identifier or a chain of
-- parents (this project's definition).
use Rattle.std.specs.Prelude.{◌≡◌, ◌≢◌, ◌<◌, ◌^◌, ◌⊎◌, ℕ, zero, suc, [], Option, Some, None, ⊤}
use Rattle.broker_model.specs.Words.{Text, token_text, id, lease_identifier, Kind, Row, RowKey, IsWaitingInRange}
use Rattle.broker_model.specs.Words.{waiting_row, Table}
use Rattle.records.specs.declared.kind.Kind.TheVariants as kind
use Rattle.soundness.specs.RowRules.{IsOf, IsSoundAt}

-- ---- identifiers

-- at most one row for each word: the row that has the identifier of the word
abbrev pub Places : Type 0
Places = ℕ → Option RowKey

-- the text is an identifier that was given out, and the row is the one that has it
abbrev pub IsHad : Table → Places → RowKey → Text → Type 0
IsHad rows places key i =
    (word : ℕ) × (word < 2 ^ 128) × (i ≡ id word) × (rows kind.Used i ≢ None) × (places word ≡ Some key)

-- the row at the kind and key is the one that has its identifier, if a row of this kind has one
abbrev pub HasItsIdentifier : Table → Places → Kind → Text → Type 0
HasItsIdentifier rows places kind.Token q = (i : Text) × (q ≡ token_text i) × IsHad rows places (kind.Token, q) i
HasItsIdentifier rows places kind.Waiting q = (i : Text) × (q ≡ token_text i) × IsHad rows places (kind.Waiting, q) i
HasItsIdentifier rows places kind.Accessor q = IsHad rows places (kind.Accessor, q) q
HasItsIdentifier rows places kind.Credential q = IsHad rows places (kind.Credential, q) q
HasItsIdentifier rows places kind.Lease q = IsHad rows places (kind.Lease, q) (lease_identifier q)
HasItsIdentifier rows places _ q = ⊤

-- each identifier is in one row
abbrev pub AreInOneRow : Table → Type 0
AreInOneRow rows =
    (places : Places) × ((k : Kind) (q : Text) (row : Row) → rows k q ≡ Some row → HasItsIdentifier rows places k q)

-- each origin of a response that waits is that of one response
abbrev pub AreOfOneOrigin : Table → Type 0
AreOfOneOrigin rows =
    (places : Places)
    × ((t : Text) (row : Row) → rows kind.Waiting t ≡ Some row
    → IsOf waiting_row (λ w. IsWaitingInRange w × IsHad rows places (kind.Waiting, t) w.origin) row)

-- ---- chains of parents

-- the chain of owners from a token ends within n tokens
abbrev pub EndsIn : ℕ → Table → Text → Type 0
EndsIn zero rows t = ⊥
EndsIn (suc n) rows t = (row : Row) → rows kind.Token t ≡ Some row → (row.owner ≡ []) ⊎ EndsIn n rows row.owner

-- it ends
abbrev pub Ends : Table → Text → Type 0
Ends rows t = (n : ℕ) × EndsIn n rows t

-- ---- all rows

pub record AreSound (rows : Table) : Type 0 where
  pub clock : rows kind.Clock [] ≢ None
  pub each : (k : Kind) (q : Text) (row : Row) → rows k q ≡ Some row → IsSoundAt rows k q row
  pub identifiers : AreInOneRow rows
  pub origins : AreOfOneOrigin rows
  pub chains : (t : Text) (row : Row) → rows kind.Token t ≡ Some row → Ends rows t
