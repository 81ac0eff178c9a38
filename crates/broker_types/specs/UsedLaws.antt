-- Laws of the identifiers that were given out.
use Rattle.std.specs.Prelude.{◌≡◌, ◌∷◌, List, [], true, None, is_none, ⊤}
use Rattle.broker_types.specs.Words.{and_parts, Text, Map, get, are_new}
use Rattle.broker_types.specs.OptionLaws.{is_nothing}

-- of two new identifiers the first was not given out
pub first_new : (used : Map ⊤) (i j : Text) → are_new used (i ∷ j ∷ []) ≡ true → get used i ≡ None
first_new used i j new = is_nothing (get used i) (and_parts (is_none (get used i)) _ new).0

-- identifiers are new without the first of them
pub rest_new : (used : Map ⊤) (i : Text) (rest : List Text) → are_new used (i ∷ rest) ≡ true → are_new used rest ≡ true
rest_new used i rest new = (and_parts _ _ (and_parts (is_none (get used i)) _ new).1).1
