-- Laws of a part of a list, one byte more.
use Rattle.std.specs.Prelude.{◌≡◌, ◌+◌, ◌-◌, ◌<◌, ◌≤◌, ◌∷◌, ◌++◌, ℕ, suc, List, [], length, get_or, take, drop, refl}
use Rattle.broker_types.specs.Words.{slice_range, ap, ◌∙◌, arith, add-one, length-drop, take-suc, drop-cons}
use Rattle.broker_types.specs.Words.{get_or-drop}

-- a part that goes one byte further
pub slice_grown : (s : List ℕ) (start i : ℕ) → start ≤ i → i < length s
    → slice_range s start (i + 1) ≡ slice_range s start i ++ (get_or s i 0 ∷ [])
slice_grown s start i from within =
    let up : (i + 1) - start ≡ suc (i - start) = omega arith in
    let room : i - start < length (drop start s) = rw length-drop (omega arith) in
    let at : start + (i - start) ≡ i = omega arith in
    ap (λ n. take n (drop start s)) up ∙ take-suc (drop start s) (i - start) 0 room
    ∙ ap (λ b. take (i - start) (drop start s) ++ b ∷ [])
    (get_or-drop start s (i - start) 0 ∙ ap (λ n. get_or s n 0) at)

-- a part that ends where it begins
pub slice_none : (s : List ℕ) (i : ℕ) → slice_range s i i ≡ []
slice_none s i = let zero : i - i ≡ 0 = omega arith in rw zero refl

-- what is left begins with its first byte
pub drop_first : (s : List ℕ) (i : ℕ) → i < length s → drop i s ≡ get_or s i 0 ∷ drop (i + 1) s
drop_first s i within = rw add-one (drop-cons s i 0 within)
