-- The rows of tokens that ended, and of their accessors, taken out (this project's definition).
use Rattle.std.specs.Prelude.{◌≡◌, ◌∷◌, List, []}
use Rattle.std.specs.FinMap as fin
use Rattle.records.specs.declared.kind.Kind.TheVariants as kind
use Rattle.records.specs.declared.row.Row.{Row}
use Rattle.records.specs.Words.{accessor_in, RowKey, IsTokenInRange, entry_row, TokenEntry, Rows}

-- the row of a token, which can be read
abbrev pub IsTokenRow : RowKey × Row → Type 0
IsTokenRow e = (x : TokenEntry) × IsTokenInRange x × (e.1 ≡ entry_row x)

-- the rows without that of a token and that of its accessor
abbrev pub without_token : Rows → RowKey × Row → Rows
without_token rows e = fin.remove (fin.remove rows (kind.Accessor, accessor_in e.1)) (kind.Token, e.0.1)

-- the rows without those of the tokens, and of their accessors
abbrev pub without_each : List (RowKey × Row) → Rows → Rows
without_each [] rows = rows
without_each (e ∷ es) rows = without_each es (without_token rows e)
