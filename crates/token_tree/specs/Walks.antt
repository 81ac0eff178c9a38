-- The walk from tokens down to their children, and what it finds (this project's definition).
use Rattle.std.specs.Prelude.{◌≡◌, ◌&&◌, ◌++◌, List, [], Bool, true, map, filter, Some, All, Contains}
use Rattle.records.specs.Words.{get, entries, IsDistinct, Text, same, RowKey, is_of_kind, table_of, Rows, rows_under}
use Rattle.records.specs.declared.kind.Kind.TheVariants as kind
use Rattle.records.specs.declared.row.Row.{Row}
use Rattle.token_tree.specs.Ended.{IsClosed, IsDescent, Start, of_owner}
use Rattle.token_tree.specs.Endings.{AreTokenRows}
use Rattle.token_tree.specs.Removed.{without_each}

-- the rows of a token's children
abbrev pub children : Rows → Text → List (RowKey × Row)
children rows t = filter (λ e. is_of_kind kind.Token e.0 && of_owner (λ owner. same owner t) e.1.owner) (entries rows)

-- the texts of tokens
abbrev pub texts : List (RowKey × Row) → List Text
texts es = map (λ e. e.0.1) es

-- rows of tokens, each once
pub record AreTokens (rows : Rows) (es : List (RowKey × Row)) : Type 0 where
  pub each : All (λ e. (e.0.0 ≡ kind.Token) × (get rows e.0 ≡ Some e.1)) es
  pub once : IsDistinct same (texts es)

-- the rows of all tokens that end by themselves
pub record AreStarted (s : Start) (rows : Rows) (es : List (RowKey × Row)) : Type 0 where
  pub tokens : AreTokens rows es
  pub start : All (λ e. s e ≡ true) es
  pub whole : (t : Text) (row : Row) → get rows (kind.Token, t) ≡ Some row → s ((kind.Token, t), row) ≡ true
      → Contains es ((kind.Token, t), row)

-- the rows of all tokens that end
pub record AreDescending (s : Start) (rows : Rows) (es : List (RowKey × Row)) : Type 0 where
  pub tokens : AreTokens rows es
  pub descent : IsDescent s (rows_under rows kind.Token []) (texts es)

-- a row of what ends by itself, or of what is below it, is no row of a token
pub record HasDamagedDescent (s : Start) (rows : Rows) : Type 0 where
  pub ended : List Text
  pub descent : IsDescent s (rows_under rows kind.Token []) ended
  pub damage : AreTokenRows ended (table_of rows) → ⊥

-- ---- whatever a walk begins with

-- The list has the first entries, and then rows of tokens that are there, each of a token below one before it: what
-- holds of the first, and of each child of a token of which it holds, holds of them all.
pub record Descends (rows : Rows) (first list : List (RowKey × Row)) : Type 0 where
  pub below : List (RowKey × Row)
  pub is : list ≡ first ++ below
  pub there : All (λ e. (e.0.0 ≡ kind.Token) × (get rows e.0 ≡ Some e.1)) below
  pub least : (p : Text → Bool) → All (λ e. p e.0.1 ≡ true) first → IsClosed p (rows_under rows kind.Token [])
      → All (λ e. p e.0.1 ≡ true) list

-- The tokens that ended are those of the first entries and others below them. Their rows are gone, with those of the
-- accessors that the entries tell. No other row has changed.
pub record EndsListed (first : List (RowKey × Row)) (old : Rows) (ended : List Text) (new : Rows) : Type 0 where
  pub list : List (RowKey × Row)
  pub descends : Descends old first list
  pub texts_are : ended ≡ texts list
  pub rows : new ≡ without_each list old
