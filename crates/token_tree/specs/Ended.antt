-- Which tokens end: those that do so by themselves, and all below them (this project's definition).
use Rattle.std.specs.Prelude.{◌≡◌, ◌∷◌, ◌&&◌, ◌||◌, ℕ, List, [], Bool, true, false, not, nat_le, map}
use Rattle.records.specs.Words.{IsDistinct, AllByRecursion, option_map_or, Text, same, has, RowKey}
use Rattle.records.specs.declared.row.Row.{Row}

-- the texts that the entries have as keys
abbrev pub has_key : List (RowKey × Row) → Text → Bool
has_key es q = has (map (λ e. e.0.1) es) q

-- which rows end by themselves
abbrev pub Start : Type 0
Start = RowKey × Row → Bool

-- the row of the token
abbrev pub is_named : Text → Start
is_named t e = same t e.0.1

-- a row whose due moment has come
abbrev pub has_come : ℕ → Start
has_come now e = option_map_or (λ due. nat_le due now) e.1.due false

-- what holds of an owner; a row without one is a child of nobody, also not of a row at the empty key
abbrev pub of_owner : (Text → Bool) → Text → Bool
of_owner p [] = false
of_owner p (c ∷ t) = p (c ∷ t)

-- a row not yet among the ended, that ends by itself or is a child of one that ends
abbrev pub goes : Start → List Text → RowKey × Row → Bool
goes t ended e = not (has ended e.0.1) && (t e || of_owner (has ended) e.1.owner)

-- no row goes
abbrev pub AllStay : Start → List Text → List (RowKey × Row) → Type 0
AllStay t ended es = AllByRecursion (λ e. goes t ended e ≡ false) es

-- every child of a text that passes passes as well
abbrev pub IsClosed : (Text → Bool) → List (RowKey × Row) → Type 0
IsClosed p es = AllByRecursion (λ e. of_owner p e.1.owner ≡ true → p e.0.1 ≡ true) es

-- what ends by itself passes
abbrev pub Starts : (Text → Bool) → Start → List (RowKey × Row) → Type 0
Starts p t es = AllByRecursion (λ e. t e ≡ true → p e.0.1 ≡ true) es

-- the least list of keys that has what ends by itself and the children of each of its own, each once
pub record IsDescent (t : Start) (es : List (RowKey × Row)) (ended : List Text) : Type 0 where
  pub once : IsDistinct same ended
  pub stay : AllStay t ended es
  pub keys : (q : Text) → has ended q ≡ true → has_key es q ≡ true
  pub least : (p : Text → Bool) → Starts p t es → IsClosed p es → (q : Text) → has ended q ≡ true → p q ≡ true
