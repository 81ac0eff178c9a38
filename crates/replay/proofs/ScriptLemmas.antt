-- The lines of an input, and what they tell.
use Rattle.std.proofs.Common.{◌≡◌, ◌+◌, ◌-◌, ◌<◌, ◌≤◌, ◌∷◌, ◌++◌, ◌∙◌, ℕ, Bool, true, false, cond, not, List, [], take}
use Rattle.records.specs.Words.{length, drop, Some, None, nat_lt, refl, sym, ap, arith, onto_first, position}
use Rattle.records.specs.Words.{position_or_len, slice_split, nat_tests, length-drop, take_all, slice_split_first}
use Rattle.hub.specs.declared.event.Event.{Event}
use Rattle.replay.specs.Lines.{events_in, has_bad}

-- ---- the first line

found_at : (p : ℕ → Bool) (xs : List ℕ) (k : ℕ) (b : Bool) → nat_lt (position_or_len p xs) (length xs) ≡ b
    → cond b (Some (position_or_len p xs)) None ≡ Some k
    → slice_split p xs ≡ take k xs ∷ slice_split p (drop (k + 1) xs)
found_at p xs k false is e = absurd (cc)
found_at p xs k true is e =
    let same : position_or_len p xs ≡ k = cc in
    let within : position_or_len p xs < length xs = grind (arith, nat_tests) in
    slice_split_first p xs 0 within ∙ ap (λ (n : ℕ). take n xs ∷ slice_split p (drop (n + 1) xs)) same

pub slice_split-found : (p : ℕ → Bool) (xs : List ℕ) (k : ℕ) → Some k ≡ position p xs → k < length xs
    → slice_split p xs ≡ take k xs ∷ slice_split p (take (length xs - (k + 1)) (drop (k + 1) xs))
slice_split-found p xs k e within =
    let all : take (length xs - (k + 1)) (drop (k + 1) xs) ≡ drop (k + 1) xs =
    take_all (length xs - (k + 1)) (drop (k + 1) xs) (omega (arith, length-drop (k + 1) xs)) in
    found_at p xs k (nat_lt (position_or_len p xs) (length xs)) refl (sym e)
    ∙ ap (λ (l : List ℕ). take k xs ∷ slice_split p l) (sym all)

no_first : (p : ℕ → Bool) (xs : List ℕ) → length xs ≤ position_or_len p xs → slice_split p xs ≡ xs ∷ []
no_first p [] le = refl
no_first p (x ∷ xs) le = at (p x) refl le (λ more. no_first p xs more)
  where
    at : (b : Bool) → p x ≡ b → length (x ∷ xs) ≤ position_or_len p (x ∷ xs)
        → (length xs ≤ position_or_len p xs → slice_split p xs ≡ xs ∷ [])
        → slice_split p (x ∷ xs) ≡ (x ∷ xs) ∷ []
    at true is le more =
        let zero_long : position_or_len p (x ∷ xs) ≡ 0 =
        ap (λ (b : Bool). cond (not b) (1 + position_or_len p xs) 0) is in
        absurd (omega arith)
    at false is le more =
        let longer : position_or_len p (x ∷ xs) ≡ 1 + position_or_len p xs =
        ap (λ (b : Bool). cond (not b) (1 + position_or_len p xs) 0) is in
        ap (λ (b : Bool). cond b ([] ∷ slice_split p xs) (onto_first x (slice_split p xs))) is
        ∙ ap (onto_first x) (more (omega arith))

none_at : (p : ℕ → Bool) (xs : List ℕ) (b : Bool) → nat_lt (position_or_len p xs) (length xs) ≡ b
    → cond b (Some (position_or_len p xs)) None ≡ None → slice_split p xs ≡ xs ∷ []
none_at p xs true is e = absurd (cc)
none_at p xs false is e = no_first p xs (grind (arith, nat_tests))

pub slice_split-none : (p : ℕ → Bool) (xs : List ℕ) → None ≡ position p xs → slice_split p xs ≡ xs ∷ []
slice_split-none p xs e = none_at p xs (nat_lt (position_or_len p xs) (length xs)) refl (sym e)

-- ---- what the lines tell

-- so many lines were read: the events of the lines, of which these are left
pub record ReadSoFar (lines : List (List ℕ)) (events : List Event) (left : List (List ℕ)) : Type 0 where
  pub told : events_in lines ≡ events ++ events_in left
  pub bad : has_bad lines ≡ has_bad left
