-- Numbers in twenty digits are in the order of the numbers.
use Rattle.std.proofs.Common.{◌≡◌, ◌<◌, ◌≤◌, ◌+◌, ◌-◌, ◌*◌, ◌^◌, ◌∷◌, ℕ, [], length, true, sym, ◌∙◌, ap, arith, inl}
use Rattle.records.specs.Words.{Less, Equal, Greater, nat_cmp, ordering_then, nat_cmp_is, is_ascii_digit}
use Rattle.records.specs.Words.{all_ascii_digits, inr, refl, cases_order, and_parts, nat_tests, Text, text_cmp, padded}
use Rattle.records.specs.Words.{digits_after, padded_digits, digits_after-padded, length-padded}

digits_lt : (m n : ℕ) (xs ys : Text) → length xs ≡ length ys → all_ascii_digits xs ≡ true → m < n
    → digits_after m xs < digits_after n ys
digits_lt m n [] [] long h l = l
digits_lt m n [] (y ∷ ys) long h l = absurd (omega (arith, long))
digits_lt m n (x ∷ xs) [] long h l = absurd (omega (arith, long))
digits_lt m n (x ∷ xs) (y ∷ ys) long h l =
    let parts = and_parts _ _ h in
    digits_lt (m * 10 + (x - 48)) (n * 10 + (y - 48)) xs ys (omega (arith, long)) parts.1
    (digit_below x (n * 10 + (y - 48)) m parts.0 (omega (arith, l)))
  where
    digit_below : (x k m : ℕ) → is_ascii_digit x ≡ true → (m + 1) * 10 ≤ k → m * 10 + (x - 48) < k
    digit_below x k m d l = grind (arith, nat_tests)

pub digits_order : (n : ℕ) (xs ys : Text) → length xs ≡ length ys → all_ascii_digits xs ≡ true
    → all_ascii_digits ys ≡ true
    → text_cmp xs ys ≡ nat_cmp (digits_after n xs) (digits_after n ys)
digits_order n [] [] long g h = nat_cmp_is n n Equal refl
digits_order n [] (y ∷ ys) long g h = absurd (omega (arith, long))
digits_order n (x ∷ xs) [] long g h = absurd (omega (arith, long))
digits_order n (x ∷ xs) (y ∷ ys) long g h =
    let p = and_parts _ _ g in
    let q = and_parts _ _ h in
    elim (cases_order x y) [
      | inl e ↦
          ap (λ r. ordering_then r (text_cmp xs ys)) (sym (nat_cmp_is x y Equal e))
          ∙ digits_order (n * 10 + (x - 48)) xs ys (omega (arith, long)) p.1 q.1
          ∙ ap (λ z. nat_cmp (digits_after (n * 10 + (x - 48)) xs) (digits_after (n * 10 + (z - 48)) ys)) e
      | inr (inl l) ↦
          ap (λ r. ordering_then r (text_cmp xs ys)) (sym (nat_cmp_is x y Less l))
          ∙ nat_cmp_is _ _ Less
          (digits_lt (n * 10 + (x - 48)) (n * 10 + (y - 48)) xs ys (omega (arith, long)) p.1 (apart x y n p.0 l))
      | inr (inr l) ↦
          ap (λ r. ordering_then r (text_cmp xs ys)) (sym (nat_cmp_is x y Greater l))
          ∙ nat_cmp_is _ _ Greater
          (digits_lt (n * 10 + (y - 48)) (n * 10 + (x - 48)) ys xs (omega (arith, long)) q.1 (apart y x n q.0 l))
    ]
  where
    apart : (x y n : ℕ) → is_ascii_digit x ≡ true → x < y → n * 10 + (x - 48) < n * 10 + (y - 48)
    apart x y n d l = grind (arith, nat_tests)

-- the digits of numbers are in the order of the numbers
pub padded_order : (m n : ℕ) → m < 2 ^ 64 → n < 2 ^ 64 → text_cmp (padded m) (padded n) ≡ nat_cmp m n
padded_order m n g h =
    digits_order 0 (padded m) (padded n) (length-padded m g ∙ sym (length-padded n h)) (padded_digits m g)
    (padded_digits n h)
    ∙ (λ i. nat_cmp (digits_after-padded m g i) (digits_after-padded n h i))
