-- What the end of tokens makes of rows, whatever these are (this project's definition).
use Rattle.std.specs.Prelude.{◌≡◌, ◌∷◌, ◌&&◌, if◌then◌else◌, List, [], true, not, Some, None, option_map, is_some}
use Rattle.records.specs.Words.{Text, same, is_told, has, Table, table_of, Rows, rows_under}
use Rattle.records.specs.declared.kind.Kind.TheVariants as kind
use Rattle.records.specs.declared.row.Row.{Row}
use Rattle.token_tree.specs.Ended.{IsDescent, Start}
use Rattle.token_tree.specs.Orphaned.{orphaned}
use Rattle.token_tree.specs.Removed.{IsTokenRow}

-- the rows of the tokens can be read
abbrev pub AreTokenRows : List Text → Table → Type 0
AreTokenRows tokens rows =
    (t : Text) (row : Row) → has tokens t ≡ true → rows kind.Token t ≡ Some row → IsTokenRow ((kind.Token, t), row)

-- the table without the rows of the tokens, and of the accessors that these tell
abbrev pub without_tokens : List Text → Table → Table
without_tokens tokens rows kind.Token q = if has tokens q then None else rows kind.Token q
without_tokens tokens rows kind.Accessor q = if is_told kind.Token tokens rows q then None else rows kind.Accessor q
without_tokens tokens rows k q = rows k q

-- ---- all that descends

-- The tokens that ended are what ends by itself and all below it. Their rows were read, and are gone with those of the
-- accessors that they tell. No other row has changed.
pub record EndsDescent (s : Start) (old : Rows) (ended : List Text) (new : Rows) : Type 0 where
  pub descent : IsDescent s (rows_under old kind.Token []) ended
  pub readable : AreTokenRows ended (table_of old)
  pub rows : table_of new ≡ without_tokens ended (table_of old)

-- a row of what ends by itself, or of what is below it, is no row of a token
abbrev pub IsDamagedDescent : Start → Rows → Type 0
IsDamagedDescent s rows =
    (ended : List Text) → IsDescent s (rows_under rows kind.Token []) ended → AreTokenRows ended (table_of rows) → ⊥

-- ---- one token alone

-- the row at q, without an owner if it is that of a child of t
abbrev pub orphan_row : Text → Text → Row → Row
orphan_row t q row = if same row.owner t && not (same q t) then orphaned row else row

-- the table in which the children of t have no parent
abbrev pub without_children_of : Text → Table → Table
without_children_of t rows kind.Token q = option_map (orphan_row t q) (rows kind.Token q)
without_children_of t rows k q = rows k q

-- the tokens that end with t alone
abbrev pub alone : Text → Table → List Text
alone t rows = if is_some (rows kind.Token t) then t ∷ [] else []

-- the table after t has ended alone
abbrev pub ended_alone : Text → Table → Table
ended_alone t rows =
    if is_some (rows kind.Token t) then without_children_of t (without_tokens (t ∷ []) rows) else rows

-- The token has ended alone, if it has a row. This row was read, and is gone with that of its accessor, and the rows of
-- its children have no owner. No other row has changed.
pub record EndsAlone (t : Text) (old : Rows) (ended : List Text) (new : Rows) : Type 0 where
  pub ends : ended ≡ alone t (table_of old)
  pub readable : AreTokenRows ended (table_of old)
  pub rows : table_of new ≡ ended_alone t (table_of old)
