use Rattle.api_client.specs.Words.{◌≡◌, ◌&&◌, ◌<◌, ◌^◌, ℕ, Bool, true, false, cond, List, Some, None, ap, ◌∙◌, sym}
use Rattle.api_client.specs.Words.{subst, refl, IsNumeral, digits_value, without_leading_plus, nat_lt, nat_tests, arith}
use Rattle.api_client.specs.Words.{is_number, number_told}
use Rattle.api_client.proofs.NumberLemmas.{numeral, plain}
use Rattle.api_client.proofs.numbers.number_of.Goals as goal

-- a number that does not fit 64 bits
too_great : (v : List ℕ) → is_number v ≡ true → ¬
    (IsNumeral 10 (without_leading_plus v) × (digits_value 10 (without_leading_plus v) < 2 ^ 64)) → None ≡ number_told v
too_great v number unfit =
    let digits = numeral v number in
    let same : without_leading_plus v ≡ v = plain v number in
    let beyond : nat_lt (digits_value 10 v) (2 ^ 64) ≡ false = past (digits_value 10 v) (λ small. unfit (
      subst (λ (ds : List ℕ). IsNumeral 10 ds) (sym same) digits,
      subst (λ (ds : List ℕ). digits_value 10 ds < 2 ^ 64) (sym same) small,
    )) in
    ap (λ (b : Bool). cond b (Some (digits_value 10 v)) None)
    (sym (ap (λ (b : Bool). is_number v && b) beyond ∙ both (is_number v)))
  where
    both : (b : Bool) → (b && false) ≡ false
    both true = refl
    both false = refl

    past : (n : ℕ) → (n < 2 ^ 64 → ⊥) → nat_lt n (2 ^ 64) ≡ false
    past n h = grind (arith, nat_tests)

pub returns-in-Err : goal.returns-in-Err
returns-in-Err c =
    let number : is_number c.args.text.now ≡ true =
    ap is_number (sym c.as_bytes.ensures.value) ∙ sym c.is_number.ensures ∙ c.if-not-is_number.false in
    too_great c.args.text.now number c.in-Err.ensures.value.0
