-- What is told of a row in trouble: which it is of its kind, its name, and what is wrong (this project's definition).
use Rattle.std.specs.Prelude.{◌≡◌, ◌≢◌, ◌⊎◌, if◌then◌else◌, [], length, Option, Some, None}
use Rattle.records.specs.Words.{is_ascii_graphic, list_all, Waiting, Text, IsTokenInRange, IsWaitingInRange, entry_row}
use Rattle.records.specs.Words.{waiting_row, TokenEntry, Rows, rows_upto}
use Rattle.std.specs.FinMap as map
use Rattle.records.specs.declared.kind.Kind.{Kind}
use Rattle.records.specs.declared.kind.Kind.TheVariants as kind
use Rattle.records.specs.declared.row.Row.{Row}
use Rattle.soundness.specs.declared.trouble.Trouble.{Trouble}
use Rattle.database_check.specs.declared.defect.Defect.{Defect}

-- the text, if it has visible ASCII characters alone
abbrev pub visible : Text → Option Text
visible t = if list_all is_ascii_graphic t then Some t else None

-- the accessor in a row, if it is visible; no name if there is no row, or if it is that of no record
abbrev pub IsAccessorIn : {X : Type 0} → (X → Type 0) → (X → Row) → (X → Text) → Option Row → Option Text → Type 0
IsAccessorIn {X} IsInRange row_of accessor row name =
    ((x : X) × IsInRange x × (row ≡ Some (row_of x)) × (name ≡ visible (accessor x)))
    ⊎ (((x : X) → IsInRange x → row ≢ Some (row_of x)) × (name ≡ None))

-- The name of the row at a kind and key: that of a token or of a response is the accessor in it, and never its key.
-- Other keys are told only where they are names.
abbrev pub IsName : Rows → Kind → Text → Option Text → Type 0
IsName rows kind.Token key name =
    IsAccessorIn IsTokenInRange entry_row (λ (x : TokenEntry). x.accessor) (map.get rows (kind.Token, key)) name
IsName rows kind.Waiting key name =
    IsAccessorIn IsWaitingInRange waiting_row (λ (w : Waiting). w.accessor) (map.get rows (kind.Waiting, key)) name
IsName rows kind.KvKey key name = name ≡ visible key
IsName rows kind.Mount key name = name ≡ visible key
IsName rows kind.Policy key name = name ≡ visible key
IsName rows kind.Role key name = name ≡ visible key
IsName rows _ key name = name ≡ None

-- so many rows of its kind there are up to the row in trouble, in the order of their keys
abbrev pub IsNumbered : Rows → Trouble → Type 0
IsNumbered rows t = t.number ≡ length (rows_upto rows t.kind [] t.key)

-- the defect tells of the row in trouble
pub record TellsOf (rows : Rows) (t : Trouble) (d : Defect) : Type 0 where
  pub of_kind : d.kind ≡ t.kind
  pub of_rule : d.rule ≡ t.rule
  -- so many rows of its kind there are up to it, in the order of their keys
  pub place : d.number ≡ length (rows_upto rows t.kind [] t.key)
  pub name_of : IsName rows t.kind t.key d.name
