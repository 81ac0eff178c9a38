-- The number of a text of digits, one digit after another.
use Rattle.std.specs.Prelude.{◌≡◌, ◌+◌, ◌-◌, ◌*◌, ◌<◌, ◌∷◌, ◌++◌, refl, ℕ, true, List, [], length, take, min, get_or}
use Rattle.broker_types.specs.Words.{ap, ◌∙◌, arith, is_ascii_digit, digit_value, list_all, digits_value, and_from}
use Rattle.broker_types.specs.Words.{take_more, list_all-append, digits_value_push, nat_tests}

digit_value_at : (d : ℕ) → is_ascii_digit d ≡ true → digit_value d ≡ d - 48
digit_value_at d digit = grind (arith, nat_tests)

pub capped_more : (ds : List ℕ) (i value : ℕ) → i < length ds → list_all is_ascii_digit (take i ds) ≡ true
    → value ≡ min (digits_value 10 (take i ds)) 1048577
    → is_ascii_digit (get_or ds i 0) ≡ true → (next : ℕ) → next ≡ min (10 * value + (get_or ds i 0 - 48)) 1048577
    → (list_all is_ascii_digit (take (i + 1) ds) ≡ true) × (next ≡ min (digits_value 10 (take (i + 1) ds)) 1048577)
capped_more ds i value lt digits so_far digit next is =
    let more : take (i + 1) ds ≡ take i ds ++ get_or ds i 0 ∷ [] = take_more ds i 0 lt in
    let grown : digits_value 10 (take (i + 1) ds) ≡ digits_value 10 (take i ds) * 10 + digit_value (get_or ds i 0) =
    ap (digits_value 10) more ∙ digits_value_push 10 (take i ds) (get_or ds i 0) in
    let at : digit_value (get_or ds i 0) ≡ get_or ds i 0 - 48 = digit_value_at (get_or ds i 0) digit in (
      ap (list_all is_ascii_digit) more ∙ list_all-append is_ascii_digit (take i ds) (get_or ds i 0 ∷ [])
          ∙ and_from _ _ digits (and_from _ _ digit refl),
      capped_next _ _ _ _ _ _ so_far is grown at,
    )
  where
    capped_next : (value before next after d e : ℕ) → value ≡ min before 1048577 → next ≡ min (10 * value + d) 1048577
        → after ≡ before * 10 + e → e ≡ d → next ≡ min after 1048577
    capped_next value before next after d e so_far is grown at = omega arith
