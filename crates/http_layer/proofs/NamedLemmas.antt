-- The fields with one name, one field after another.
use Rattle.std.proofs.Common.{◌≡◌, ◌<◌, ◌∷◌, ◌++◌, ℕ, Bool, true, false, cond, List, [], length, map, get_or, refl, sym}
use Rattle.broker_types.specs.Words.{ap, ◌∙◌, list_any, append-nil, list_any_at}
use Rattle.broker_types.specs.ListLaws.{any_mapped}
use Rattle.http_layer.specs.Words.{HeadField, is_named, values_named, AreNamed, Named, Several, values_named-append}
use Rattle.http_layer.specs.declared.fields.Named.TheVariants.{Absent, Once}

pub values_named-hit : (name : List ℕ) (fields : List HeadField) (f : HeadField) → is_named name f ≡ true
    → values_named name (fields ++ f ∷ []) ≡ values_named name fields ++ f.1 ∷ []
values_named-hit name fields f is =
    values_named-append name fields (f ∷ [])
    ∙ ap (λ (b : Bool). values_named name fields ++ map (λ (g : HeadField). g.1) (cond b (f ∷ []) [])) is

pub values_named-miss : (name : List ℕ) (fields : List HeadField) (f : HeadField) → is_named name f ≡ false
    → values_named name (fields ++ f ∷ []) ≡ values_named name fields
values_named-miss name fields f is =
    values_named-append name fields (f ∷ [])
    ∙ ap (λ (b : Bool). values_named name fields ++ map (λ (g : HeadField). g.1) (cond b (f ∷ []) [])) is
    ∙ append-nil (values_named name fields)

-- where a value stood, one more makes it several
pub AreNamed-several : (values : List (List ℕ)) (named : Named) (v : List ℕ) → AreNamed values named
    → (named ≡ Absent → ⊥)
    → AreNamed (values ++ v ∷ []) Several
AreNamed-several values Absent v are some = absurd (some refl)
AreNamed-several values (Once w) v are some = (w.now, v, [], ap (λ (l : List (List ℕ)). l ++ v ∷ []) are)
AreNamed-several values Several v (a, b, rest, is) some =
    (a, b, rest ++ v ∷ [], ap (λ (l : List (List ℕ)). l ++ v ∷ []) is)

-- one element settles the answer
pub list_any-map_at : {X Y : Type 0} (p : Y → Bool) (f : X → Y) (xs : List X) (i : ℕ) (d : X) → i < length xs
    → p (f (get_or xs i d)) ≡ true
    → true ≡ list_any p (map f xs)
list_any-map_at p f xs i d inside is = sym (any_mapped p f xs ∙ list_any_at (λ x. p (f x)) xs i d inside is)
