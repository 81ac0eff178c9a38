-- Where a text is cut.
use Rattle.std.specs.Prelude.{◌≡◌, ◌<◌, ◌+◌, ◌∷◌, ◌==◌, ℕ, suc, [], length, take, drop, true, false, not, cond, Option}
use Rattle.records.specs.Words.{Some, None, position_or_len, prefix_len, before_first, after_first, refl, sym, ◌∙◌, ap}
use Rattle.records.specs.Words.{arith, Bor, IsSplitOnceResult, split_once_first, Text, split_once, split_step}

found_later : (c x : ℕ) (s : Text) → (x == c) ≡ false
    → position_or_len (λ b. b == c) (x ∷ s) ≡ suc (position_or_len (λ b. b == c) s)
found_later c x s h = ap (λ b. cond (not b) (1 + prefix_len (λ x'. not (x' == c)) s) 0) h ∙ omega arith

found_here : (c x : ℕ) (s : Text) → (x == c) ≡ true → position_or_len (λ b. b == c) (x ∷ s) ≡ 0
found_here c x s h = ap (λ b. cond (not b) (1 + prefix_len (λ x'. not (x' == c)) s) 0) h

split_none : (c : ℕ) (s : Text) → position_or_len (λ b. b == c) s ≡ length s → split_once c s ≡ None
split_none c [] h = refl
split_none c (x ∷ s) h =
    elim (x == c) as (λ b. (x == c) ≡ b → split_step b x s (split_once c s) ≡ None) [
      | true ↦ λ is. let e = found_here c x s is in absurd (omega (arith, e, h))
      | false ↦ λ is. let e = found_later c x s is in let k : position_or_len (λ b. b == c) s ≡ length s =
          omega (arith, e, h) in ap (split_step false x s)
          (split_none c s k)
    ] refl

tail_at : ℕ → Text → ℕ → ℕ → Option (Text × Text)
tail_at x s n z = Some (x ∷ take n s, drop z (x ∷ s))

split_some : (c : ℕ) (s : Text) → position_or_len (λ b. b == c) s < length s
    → split_once c s ≡ Some (before_first (λ b. b == c) s, after_first (λ b. b == c) s)
unfolding tail_at
split_some c [] h = absurd (omega (arith, h))
split_some c (x ∷ s) h =
    let cut_at : ℕ → Option (Text × Text) = λ n. Some (take n (x ∷ s), drop (n + 1) (x ∷ s)) in
    elim (x == c) as (λ b. (x == c) ≡ b
    → split_step b x s (split_once c s) ≡ Some
    (take (position_or_len (λ b. b == c) (x ∷ s)) (x ∷ s), drop (position_or_len (λ b. b == c) (x ∷ s) + 1) (x ∷ s))) [
      | true ↦ λ is. ap (λ n. cut_at n) (sym (found_here c x s is))
      | false ↦ λ is.
          let e = found_later c x s is in
          let k : position_or_len (λ b. b == c) s < length s = omega (arith, e, h) in
          let n = position_or_len (λ b. b == c) s in
          let d : suc (n + 1) ≡ suc n + 1 = omega arith in
          ap (split_step false x s) (split_some c s k) ∙ ap (λ z. tail_at x s n z) d ∙ ap (λ n. cut_at n) (sym e)
    ] refl

-- what `split_once` of the code answers is what `split_once` of the definition does
module _ (c : ℕ) (small : c < 128) (path : Text) (r : Option (Bor Text × Bor Text))
    (split : IsSplitOnceResult c path r) where
  -- if it finds no such byte
  pub cut_none : r ≡ None → split_once c path ≡ None
  cut_none is = split_none c path (rw is at (split_once_first c path r split small))

  -- and if it finds one
  pub cut_some : (x : Bor Text × Bor Text) → r ≡ Some x → split_once c path ≡ Some (x.0.now, x.1.now)
  cut_some x is =
      let (inside, front, back) = rw is at (split_once_first c path r split small) in
      split_some c path inside ∙ sym (λ i. Some (front i, back i))
