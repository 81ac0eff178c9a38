-- Numbers in twenty digits, and what they tell.
use Rattle.std.specs.Prelude.{◌≡◌, ◌<◌, ◌≤◌, ◌+◌, ◌-◌, ◌^◌, ◌&&◌, ◌++◌, if◌then◌else◌, ◌∷◌, ℕ, suc, zero, length, true}
use Rattle.broker_types.specs.Words.{replicate, false, nat_le, Some, None, decimal, Result, Ok, [], all_ascii_digits}
use Rattle.broker_types.specs.Words.{ParsesUnsigned, refl, sym, ◌∙◌, ap, subst, arith, length-append, append_assoc}
use Rattle.broker_types.specs.Words.{and_parts, le-leb, leb-true, length-replicate, length-decimal-le, digits_decimal}
use Rattle.broker_types.specs.Words.{digits_value-decimal, same_Some, none-some, IsNumeralModel, numerals_by_fold}
use Rattle.broker_types.specs.Words.{tells_all_ascii_digits, parse_gives, Text, greatest_version}
use Rattle.broker_types.specs.TextLaws.{same_self, same_true}
use Rattle.records.specs.Rows.{padded, digits_after, are_digits_of, version_of_digits}

-- the number of digits is what std reads off them
pub digits_model : IsNumeralModel (λ ds. all_ascii_digits ds ≡ true) (digits_after 0)
digits_model =
    numerals_by_fold _ tells_all_ascii_digits digits_after (record { empty = λ n. refl; more = λ n c cs digit. refl })

zeros_digits : (j : ℕ) (ds : Text) → all_ascii_digits ds ≡ true → all_ascii_digits (replicate j 48 ++ ds) ≡ true
zeros_digits zero ds h = h
zeros_digits (suc j) ds h = zeros_digits j ds h

zeros_tell : (j : ℕ) (ds : Text) → digits_after 0 (replicate j 48 ++ ds) ≡ digits_after 0 ds
zeros_tell zero ds = refl
zeros_tell (suc j) ds = zeros_tell j ds

-- the twenty digits of a number are digits
pub padded_digits : (n : ℕ) → n < 2 ^ 64 → all_ascii_digits (padded n) ≡ true
padded_digits n h = zeros_digits (20 - length (decimal n)) (decimal n) (digits_decimal digits_model n h)

-- they tell the number
pub digits_after-padded : (n : ℕ) → n < 2 ^ 64 → digits_after 0 (padded n) ≡ n
digits_after-padded n h = zeros_tell (20 - length (decimal n)) (decimal n) ∙ digits_value-decimal digits_model n h

-- there are twenty
pub length-padded : (n : ℕ) → n < 2 ^ 64 → length (padded n) ≡ 20
length-padded n h =
    let short : length (decimal n) ≤ 20 = length-decimal-le 20 n (omega arith) (omega arith) h in
    length-append (replicate (20 - length (decimal n)) 48) (decimal n)
    ∙ ap (λ k. k + length (decimal n)) (length-replicate (20 - length (decimal n)) 48)
    ∙ omega (arith, short)

-- a version is a number that twenty digits tell
pub wide : (n : ℕ) → n ≤ greatest_version → n < 2 ^ 64
wide n h = omega (arith, h)

-- twenty digits tell their version
pub version_of_digits-padded : (n : ℕ) → n ≤ greatest_version → version_of_digits (padded n) ≡ Some n
version_of_digits-padded n h =
    ap (λ v. if are_digits_of (padded n) v then Some v else None) (digits_after-padded n (wide n h))
    ∙ (λ i. if le-leb n greatest_version h i && same_self (padded n) i then Some n else None)

-- digits that tell a version are its own
pub digits_are : (d : Text) (n : ℕ) → version_of_digits d ≡ Some n → (n ≤ greatest_version) × (d ≡ padded n)
digits_are d n h =
    elim (are_digits_of d (digits_after 0 d)) as
    (λ v. are_digits_of d (digits_after 0 d) ≡ v → (if v then Some (digits_after 0 d) else None) ≡ Some n
    → (n ≤ greatest_version) × (d ≡ padded n)) [
      | true ↦ λ is e.
          let one : digits_after 0 d ≡ n = same_Some _ _ e in
          let both = and_parts _ _ is in (
            leb-true n greatest_version (ap (λ v. nat_le v greatest_version) (sym one) ∙ both.0),
            sym (same_true (padded (digits_after 0 d)) d both.1)
                ∙ ap padded one,
          )
      | false ↦ λ _ e. absurd (none-some _ e)
    ] refl h

-- twenty digits are read as their number
pub padded_read : {E : Type 0} (digits : Text) (n : ℕ) → n < 2 ^ 64 → digits ≡ padded n → (r : Result ℕ E)
    → ParsesUnsigned 64 10 digits r → r ≡ Ok n
padded_read digits n small is r parses =
    let value = digits_after-padded n small in
    let long = length-padded n small in
    let some : 0 < length (padded n) = omega (arith, long) in
    parse_gives digits_model 64 (padded n) r (subst (λ d. ParsesUnsigned 64 10 d r) is parses) (padded_digits n small)
    some
    (subst (λ m. m < 2 ^ 64) (sym value) small)
    ∙ ap Ok value

-- one zero more in front of them
pub zeros_more : (s : Text) (p : ℕ) → p < 20 → (s ++ 48 ∷ []) ++ replicate (20 - (p + 1)) 48
    ≡ s ++ replicate (20 - p) 48
zeros_more s p h =
    let e : suc (20 - (p + 1)) ≡ 20 - p = omega (arith, h) in
    append_assoc s (48 ∷ []) (replicate (20 - (p + 1)) 48) ∙ ap (λ n. s ++ replicate n 48) e
