-- The paths of a cubbyhole, and the keys of its rows.
use Rattle.std.proofs.Common.{◌≡◌, ◌∷◌, ◌++◌, [], length, is_some, Option, Some, None, option_map, option_and_then, sym}
use Rattle.records.specs.Words.{option_map_or, contains_key-keys, refl, ◌∙◌, ap, append_assoc, Text, get, keys, Token}
use Rattle.records.specs.Words.{Broker, has, AreNames, of_cubbyholes, Tells, cubby_row, token_len, slash, table_of}
use Rattle.records.specs.Words.{Rows, has_by_order}
use Rattle.records.specs.declared.kind.Kind.TheVariants as kind
use Rattle.cubbyhole.specs.Words.{object_at, paths, object_key}
use Rattle.cubbyhole.proofs.ObjectRows.{row_at}

-- a path is among those of the cubbyhole where there is an object
has-paths : (b : Broker) (t path : Text) → is_some (object_at b t path) ≡ has (paths b t) path
has-paths b t path = inner (get b.tokens t)
  where
    inner : (o : Option Token) → is_some (option_and_then (λ (x : Token). get x.cubbyhole path) o)
        ≡ has (option_map_or (λ (x : Token). keys x.cubbyhole) o []) path
    inner None = refl
    inner (Some x) = contains_key-keys x.cubbyhole path ∙ sym (has_by_order path (keys x.cubbyhole))

-- a key of t's cubbyhole ends in the path
pub key_joined : (t path : Text) → object_key t path ≡ object_key t [] ++ path
key_joined t path = sym (append_assoc t (slash ∷ []) path)

-- the rows of t's cubbyhole are named by its paths
pub paths_name : (rows : Rows) (b : Broker) (t : Text) → Tells of_cubbyholes (table_of rows) b → length t ≡ token_len
    → AreNames rows kind.Cubby (object_key t []) (paths b t)
paths_name rows b t told len path =
    ap (λ q. is_some (table_of rows kind.Cubby q)) (sym (key_joined t path))
    ∙ ap is_some (told kind.Cubby (object_key t path) refl ∙ row_at b t path len) ∙ some-map (object_at b t path)
    ∙ has-paths b t path
  where
    some-map : (o : Option Text) → is_some (option_map (cubby_row t) o) ≡ is_some o
    some-map None = refl
    some-map (Some object) = refl
