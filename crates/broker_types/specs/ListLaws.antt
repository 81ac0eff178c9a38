-- Laws of tests on lists (this project's).
use Rattle.std.proofs.Common.{◌≡◌, ◌||◌, ◌∷◌, List, [], Bool, true, map, Contains, refl, ◌∙◌, ap}
use Rattle.broker_types.specs.Words.{list_any, Any-from_list_any, list_any_at}

-- an element that passes is found
pub any_contained : {X : Type 0} (p : X → Bool) (xs : List X) (x : X) → Contains xs x → p x ≡ true
    → list_any p xs ≡ true
any_contained p xs x at passes = list_any_at p xs at.0 x at.1 (ap p at.2 ∙ passes)

-- and what is found is an element that passes
pub passing : {X : Type 0} (p : X → Bool) (xs : List X) → list_any p xs ≡ true
    → (x : X) × Contains xs x × (p x ≡ true)
passing p xs h = let one = Any-from_list_any p xs h in (one.1, (one.0, one.2, one.3), one.4)

-- a test of what becomes of the elements
pub any_mapped : {X Y : Type 0} (p : Y → Bool) (f : X → Y) (xs : List X)
    → list_any p (map f xs) ≡ list_any (λ x. p (f x)) xs
any_mapped p f [] = refl
any_mapped p f (x ∷ xs) = ap (λ v. p (f x) || v) (any_mapped p f xs)
