-- Laws of the fields of a head.
use Rattle.std.proofs.Common.{◌≡◌, ◌++◌, ℕ, List, map, ◌∙◌, ap, filter}
use Rattle.broker_types.specs.Words.{map-append, filter-append}
use Rattle.http_layer.specs.HeadParts.{HeadField, is_named, values_named}

-- the values of one name, in fields and in more
pub values_named-append : (name : List ℕ) (fields more : List HeadField)
    → values_named name (fields ++ more) ≡ values_named name fields ++ values_named name more
values_named-append name fields more =
    ap (map (λ (f : HeadField). f.1)) (filter-append (is_named name) fields more)
    ∙ map-append (λ (f : HeadField). f.1) (filter (is_named name) fields) (filter (is_named name) more)
