-- Laws of decimal digits: the bytes that are digits are those that have a value below ten.
use Rattle.std.proofs.Common.{◌≡◌, ◌<◌, ◌&&◌, ◌∷◌, ℕ, List, [], true, refl, ◌∙◌, ap, arith}
use Rattle.broker_types.specs.Words.{is_ascii_digit, digit_value, list_all, AllDigits, and_parts, nat_tests}

pub is_digit : (c : ℕ) → digit_value c < 10 → is_ascii_digit c ≡ true
is_digit c small = grind (arith, nat_tests)

pub digit_small : (c : ℕ) → is_ascii_digit c ≡ true → digit_value c < 10
digit_small c digit = grind (arith, nat_tests)

pub all_digits : (s : List ℕ) → list_all is_ascii_digit s ≡ true → AllDigits 10 s
all_digits [] h = tt
all_digits (c ∷ cs) h = let p = and_parts _ _ h in (digit_small c p.0, all_digits cs p.1)

pub digits_all : (s : List ℕ) → AllDigits 10 s → list_all is_ascii_digit s ≡ true
digits_all [] h = refl
digits_all (c ∷ cs) h = ap (λ b. b && list_all is_ascii_digit cs) (is_digit c h.0) ∙ digits_all cs h.1
