-- Cubbyholes as rows: each object has one, at its token, a slash and its path (this project's row format).
use Rattle.std.specs.Prelude.{◌≡◌, ◌++◌, ◌∷◌, List, [], false, length, Option, Some, option_map}
use Rattle.records.specs.Words.{Text, IsShortText, folder, children, keys_under, IsSomeIn, cubby_row, token_len, slash}
use Rattle.records.specs.Words.{Table, has_prefix, Rows}
use Rattle.records.specs.declared.kind.Kind.{Kind}
use Rattle.records.specs.declared.kind.Kind.TheVariants as kind
use Rattle.records.specs.declared.row.Row.{Row}

-- the key of the object's row: the token, a slash and the path
abbrev pub object_key : Text → Text → Text
object_key t path = t ++ slash ∷ path

-- the row at the path of t's cubbyhole is that of the object, or there is none
abbrev pub IsObjectAt : Table → Text → Text → Option Text → Type 0
IsObjectAt rows t path object = rows kind.Cubby (object_key t path) ≡ option_map (cubby_row t) object

-- the row at the path of t's cubbyhole is no row of an object
abbrev pub IsDamagedAt : Table → Text → Text → Type 0
IsDamagedAt rows t path = (object : Option Text) → IsSomeIn IsShortText object → IsObjectAt rows t path object → ⊥

-- the children of a folder among the keys of t's cubbyhole
abbrev pub children_in : Rows → Text → Text → List Text
children_in rows t path =
    children (object_key t (folder path)) (keys_under rows kind.Cubby (object_key t (folder path)))

-- no row has changed but those of t's cubbyhole
abbrev pub KeepsOtherOwners : Text → Table → Table → Type 0
KeepsOtherOwners t old new =
    (k : Kind) (q : Text) → has_prefix kind.Cubby (object_key t []) k q ≡ false → new k q ≡ old k q

-- a row of a cubbyhole has its token as its owner, and its key is the token, a slash and a path
pub record IsFiled (q : Text) (row : Row) : Type 0 where
  pub path : Text
  pub owner : length row.owner ≡ token_len
  pub key : q ≡ object_key row.owner path

-- each row of a cubbyhole is filed under its owner
abbrev pub AreFiled : Table → Type 0
AreFiled rows = (q : Text) (row : Row) → rows kind.Cubby q ≡ Some row → IsFiled q row
