-- The identifiers that were given out (this project's definition).
use Rattle.std.specs.Prelude.{List, [], ◌∷◌, Bool, true, not, ◌&&◌, is_none, ⊤}
use Rattle.std.specs.List.{list_any}
use Rattle.broker_types.specs.Text.{Text, same}
use Rattle.broker_types.specs.Map.{Map, get, put}

-- none of them was given out, and no two are equal
abbrev pub are_new : Map ⊤ → List Text → Bool
are_new used [] = true
are_new used (i ∷ is) = is_none (get used i) && (not (list_any (same i) is) && are_new used is)

-- with these given out too
abbrev pub use_up : Map ⊤ → List Text → Map ⊤
use_up used [] = used
use_up used (i ∷ is) = put (use_up used is) i tt
