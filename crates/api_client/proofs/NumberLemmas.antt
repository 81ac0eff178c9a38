-- Numbers that digits tell.
use Rattle.api_client.specs.Words.{◌≡◌, ◌==◌, ◌∷◌, ℕ, Bool, true, false, cond, List, [], length, drop}
use Rattle.api_client.specs.Words.{nat_lt, refl, ap, arith, and_parts, ltb-true, nat_tests, is_ascii_digit}
use Rattle.api_client.specs.Words.{list_all, IsNumeral, without_leading_plus, all_digits, is_number}

pub not_plus : (ds : List ℕ) → list_all is_ascii_digit ds ≡ true → without_leading_plus ds ≡ ds
not_plus [] h = refl
not_plus (c ∷ cs) h = ap (λ (b : Bool). drop (cond b 1 0) (c ∷ cs))
    (other c (and_parts (is_ascii_digit c) (list_all is_ascii_digit cs) h).0)
  where
    other : (c : ℕ) → is_ascii_digit c ≡ true → (c == 43) ≡ false
    other c digit = grind (arith, nat_tests)

-- a number has digits alone
pub numeral : (v : List ℕ) → is_number v ≡ true → IsNumeral 10 v
numeral v number =
    let p = and_parts (nat_lt 0 (length v)) (list_all is_ascii_digit v) number in
    (ltb-true 0 (length v) p.0, all_digits v p.1)

pub plain : (v : List ℕ) → is_number v ≡ true → without_leading_plus v ≡ v
plain v number = not_plus v (and_parts (nat_lt 0 (length v)) (list_all is_ascii_digit v) number).1
