-- Entries in the order of their keys, page by page: the first of them, and what is above the last of these.
use Rattle.std.proofs.Common.{◌≡◌, ◌<◌, ◌-◌, ◌&&◌, ◌∷◌, ◌++◌, ℕ, List, [], length, slice_get, true, not, cond, Some, ap}
use Rattle.broker_types.specs.Words.{None, Ordering, Less, Equal, Greater, nat_cmp, is_eq, is_ge, is_le, is_lt}
use Rattle.broker_types.specs.Words.{ordering_then, IsTotalOrder, find, is_sorted, below_all, refl, sym, ◌∙◌, arith}
use Rattle.broker_types.specs.Words.{suc, and_parts, Text, text_cmp}
use Rattle.broker_types.specs.TestLaws.{is_less}

-- ---- the least text above another

-- no text is below the empty one
pub not_below_none : (q : Text) → is_ge (text_cmp q []) ≡ true
not_below_none [] = refl
not_below_none (c ∷ q) = refl

above_none : (c : ℕ) (q : Text) → is_ge (ordering_then (nat_cmp c 0) (text_cmp q [])) ≡ true
above_none c q = one (nat_cmp c 0) refl
  where
    one : (o : Ordering) → nat_cmp c 0 ≡ o → is_ge (ordering_then o (text_cmp q [])) ≡ true
    one Less is = let low : c < 0 = grind (arith, is) in absurd (omega (arith, low))
    one Equal is = not_below_none q
    one Greater is = refl

-- what is not below it is above the other
pub just_above : (q k : Text) → is_ge (text_cmp q (k ++ 0 ∷ [])) ≡ not (is_le (text_cmp q k))
just_above [] [] = refl
just_above [] (d ∷ k) = refl
just_above (c ∷ q) [] = above_none c q
just_above (c ∷ q) (d ∷ k) = elim (nat_cmp c d) as
    (λ o. is_ge (ordering_then o (text_cmp q (k ++ 0 ∷ []))) ≡ not (is_le (ordering_then o (text_cmp q k)))) [
      | Less ↦ refl
      | Equal ↦ just_above q k
      | Greater ↦ refl
    ]

-- ---- entries in the order of their keys

module _ {K X : Type 0} (R : K → K → Ordering) (total : IsTotalOrder R) where
  -- the last of entries
  abbrev pub last_of : K × X → List (K × X) → K × X
  last_of e [] = e
  last_of e (f ∷ fs) = last_of f fs

  -- it is at the greatest index
  pub last_got : (e : K × X) (es : List (K × X)) → slice_get (e ∷ es) (length (e ∷ es) - 1) ≡ Some (last_of e es)
  last_got e [] = refl
  last_got e (f ∷ fs) =
      let n : length (e ∷ f ∷ fs) - 1 ≡ suc (length (f ∷ fs) - 1) = omega arith in
      ap (slice_get (e ∷ f ∷ fs)) n ∙ last_got f fs

  -- what is below all keys has no entry
  pub none_low : (q : K) (es : List (K × X)) → below_all R q es ≡ true → find R q es ≡ None
  none_low q [] h = refl
  none_low q (e ∷ es) h =
      let parts = and_parts _ _ h in
      ap (λ o. cond (is_eq o) (Some e.1) (find R q es)) (is_less _ parts.0) ∙ none_low q es parts.1

  below_too : (q k : K) (es : List (K × X)) → R q k ≡ Less → below_all R k es ≡ true → below_all R q es ≡ true
  below_too q k [] low h = refl
  below_too q k (e ∷ es) low h =
      let parts = and_parts _ _ h in
      (λ i. is_lt (total.trans q k e.0 low (is_less _ parts.0) i) && below_too q k es low parts.1 i)

  below_last : (k : K) (e : K × X) (es more : List (K × X)) → below_all R k (e ∷ es ++ more) ≡ true
      → R k (last_of e es).0 ≡ Less
  below_last k e [] more h = is_less _ (and_parts _ _ h).0
  below_last k e (f ∷ fs) more h = below_last k f fs more (and_parts _ _ h).1

  -- of entries in order the first have those whose keys are not above the last of them
  pub page_finds : (e : K × X) (es more : List (K × X)) → is_sorted R (e ∷ es ++ more) ≡ true → (q : K)
      → find R q (e ∷ es) ≡ cond (is_le (R q (last_of e es).0)) (find R q (e ∷ es ++ more)) None
  page_finds e [] more sorted q =
      let parts = and_parts _ _ sorted in
      elim (R q e.0) as (λ o. R q e.0 ≡ o → cond (is_eq o) (Some e.1) None
      ≡ cond (is_le o) (cond (is_eq o) (Some e.1) (find R q more)) None) [
        | Less ↦ λ low. sym (none_low q more (below_too q e.0 more low parts.0))
        | Equal ↦ λ _. refl
        | Greater ↦ λ _. refl
      ] refl
  page_finds e (f ∷ fs) more sorted q =
      let parts = and_parts _ _ sorted in
      let rest = page_finds f fs more parts.1 q in
      let last = (last_of f fs).0 in
      elim (R q e.0) as (λ o. R q e.0 ≡ o → cond (is_eq o) (Some e.1) (find R q (f ∷ fs))
      ≡ cond (is_le (R q last)) (cond (is_eq o) (Some e.1) (find R q (f ∷ fs ++ more))) None) [
        | Less ↦ λ _. rest
        | Equal ↦ λ tie.
            let low : R q last ≡ Less = total.congr q e.0 last tie ∙ below_last e.0 f fs more parts.0 in
            sym (ap (λ o. cond (is_le o) (Some e.1) None) low)
        | Greater ↦ λ _. rest
      ] refl

  -- and the first are in order
  pub first_sorted : (es more : List (K × X)) → is_sorted R (es ++ more) ≡ true → is_sorted R es ≡ true
  first_sorted [] more h = refl
  first_sorted (e ∷ es) more h =
      let parts = and_parts _ _ h in
      (λ i. below_first e.0 es more parts.0 i && first_sorted es more parts.1 i)
    where
      below_first : (k : K) (es more : List (K × X)) → below_all R k (es ++ more) ≡ true → below_all R k es ≡ true
      below_first k [] more h = refl
      below_first k (e ∷ es) more h =
          let parts = and_parts _ _ h in
          (λ i. parts.0 i && below_first k es more parts.1 i)
