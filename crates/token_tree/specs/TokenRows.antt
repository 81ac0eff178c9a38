-- What the rows of tokens say, whatever they are, and how calls on a single token change them (this project's row
-- format).
use Rattle.std.specs.Prelude.{◌≡◌, ◌-◌, ℕ, Option, Some, None, option_map}
use Rattle.records.specs.Words.{Text, IsTokenInRange, IsSomeIn, entry_row, accessor_row, Table, with_row, TokenEntry}
use Rattle.records.specs.declared.kind.Kind.TheVariants as kind
use Rattle.records.specs.declared.holder.Holder.TheVariants as holder

-- the row of the token t is that of the entry, or there is none
abbrev pub IsTokenAt : Table → Text → Option TokenEntry → Type 0
IsTokenAt rows t entry = rows kind.Token t ≡ option_map entry_row entry

-- the row of t is no row of a token
abbrev pub IsDamagedToken : Table → Text → Type 0
IsDamagedToken rows t = (entry : Option TokenEntry) → IsSomeIn IsTokenInRange entry → IsTokenAt rows t entry → ⊥

-- the table with the row of the token t, and that of its accessor
abbrev pub with_created : Table → Text → TokenEntry → Table
with_created rows t x =
    with_row (with_row rows kind.Token t (entry_row x)) kind.Accessor x.accessor (accessor_row t holder.Token)

-- the table with the row of an entry at t, if there is an entry
abbrev pub with_entry : Table → Text → Option TokenEntry → Table
with_entry rows t None = rows
with_entry rows t (Some x) = with_row rows kind.Token t (entry_row x)

-- an entry with one use less, if its uses are limited
abbrev pub spent_entry : TokenEntry → TokenEntry
spent_entry x = record x { uses_left = option_map (λ n. n - 1) x.uses_left }

-- an entry with another end
abbrev pub renewed_entry : ℕ → TokenEntry → TokenEntry
renewed_entry ends x = record x { ends = Some ends }

-- The row of the token t is that of its entry, changed by f. No other row has changed, and none has if there is no row
-- of t.
pub record ChangesToken (t : Text) (f : TokenEntry → TokenEntry) (old new : Table) : Type 0 where
  pub entry : Option TokenEntry
  pub in_range : IsSomeIn IsTokenInRange entry
  pub was : IsTokenAt old t entry
  pub is : new ≡ with_entry old t (option_map f entry)

-- A use of the token t is spent, if its uses are limited, and its row says what is left then; nothing is left if there
-- is no row of t.
pub record SpendsUse (t : Text) (old new : Table) (left : Option TokenEntry) : Type 0 where
  pub changes : ChangesToken t spent_entry old new
  pub told : left ≡ option_map spent_entry changes.entry
