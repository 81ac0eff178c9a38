-- Finite maps from texts, in the order of their bytes (this project's definition, on std's finite maps).
use Rattle.std.specs.Prelude.{List, Bool, if◌then◌else◌, Option, map}
use Rattle.std.specs.FinMap as fin
use Rattle.std.specs.FinMap.{FinMap}
use Rattle.std.specs.List.{find}
pub use Rattle.std.specs.FinMap.{get, empty, len, entries, keys}
use Rattle.broker_types.specs.Text.{Text, text_cmp, same}

-- a finite map from texts: each key has at most one value
abbrev pub Map : Type 0 → Type 0
Map X = FinMap text_cmp X

module _ {X : Type 0} where
  -- the map with x at k
  abbrev pub put : Map X → Text → X → Map X
  put m k x = fin.insert m k x

  -- the map without k
  abbrev pub without : Map X → Text → Map X
  without m k = fin.remove m k

  -- the entries whose keys pass
  abbrev pub keep : (Text → Bool) → Map X → Map X
  keep p m = fin.retain_keys m p

module _ {X Y : Type 0} where
  -- the entries, with each value x at q changed to f q x
  abbrev pub with_values : (Text → X → Y) → List (Text × X) → List (Text × Y)
  with_values f es = map (λ e. (e.0, f e.0 e.1)) es

  -- each value x at q is f q x
  unfoldable pub map_values : (Text → X → Y) → Map X → Map Y
  map_values f m = fin.from_sorted (with_values f (entries m))

module _ {X : Type 0} where
  -- the value at k changed by f
  abbrev pub change : Map X → Text → (X → X) → Map X
  change m k f = map_values (λ q x. if same q k then f x else x) m

  -- the first entry that passes
  abbrev pub first_where : (Text → X → Bool) → Map X → Option (Text × X)
  first_where p m = find (λ e. p e.0 e.1) (entries m)
