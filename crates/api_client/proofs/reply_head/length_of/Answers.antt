use Rattle.broker_types.specs.Words.{MatchResult, IsAscii-from_digits, IsOk}
use Rattle.api_client.specs.Words.{◌≡◌, ◌&&◌, ◌<◌, ◌^◌, ℕ, Bool, true, false, cond, List, Some, None, Result, Ok, Err}
use Rattle.api_client.specs.Words.{IsUtf8, nat_le, refl, sym, ap, ◌∙◌, subst, arith, nat_tests, IsUtf8-from_ascii}
use Rattle.api_client.specs.Words.{IsNumeral, digits_value, without_leading_plus, is_number, length_told}
use Rattle.api_client.specs.Words.{longest_reply_body}
use Rattle.api_client.proofs.NumberLemmas.{numeral, plain}
use Rattle.api_client.proofs.reply_head.length_of.Goals as goal

is_text : {T E : Type 0} (r : Result T E) (v : List ℕ) (P : T → Type 0) (Q : E → Type 0)
    → MatchResult r P (λ e. ¬ (IsUtf8 v) × Q e) → IsUtf8 v → IsOk r
is_text (Ok x) v P Q h text = refl
is_text (Err e) v P Q h text = absurd (h.0 text)

pub unwrap-requires : goal.unwrap-requires
unwrap-requires c =
    let number : is_number c.args.value.now ≡ true = sym c.is_number.ensures ∙ c.if-not-is_number.false in
    let digits = numeral c.args.value.now number in
    is_text c.from_utf8.result c.args.value.now _ _ c.from_utf8.ensures.cases
    (IsUtf8-from_ascii c.args.value.now (IsAscii-from_digits c.args.value.now digits.1))

-- a number that does not fit 32 bits is above the limit
too_great : (v : List ℕ) → is_number v ≡ true → ¬
    (IsNumeral 10 (without_leading_plus v) × (digits_value 10 (without_leading_plus v) < 2 ^ 32)) → None ≡ length_told v
too_great v number unfit =
    let digits = numeral v number in
    let same : without_leading_plus v ≡ v = plain v number in
    let beyond : nat_le (digits_value 10 v) longest_reply_body ≡ false = past (digits_value 10 v) (λ small. unfit (
      subst (λ (ds : List ℕ). IsNumeral 10 ds) (sym same) digits,
      subst (λ (ds : List ℕ). digits_value 10 ds < 2 ^ 32) (sym same) small,
    )) in
    ap (λ (b : Bool). cond b (Some (digits_value 10 v)) None)
    (sym (ap (λ (b : Bool). is_number v && b) beyond ∙ both (is_number v)))
  where
    both : (b : Bool) → (b && false) ≡ false
    both true = refl
    both false = refl

    past : (n : ℕ) → (n < 2 ^ 32 → ⊥) → nat_le n longest_reply_body ≡ false
    past n h = grind (arith, nat_tests)

pub returns-in_default-2 : goal.returns-in_default-2
returns-in_default-2 c =
    let number : is_number c.args.value.now ≡ true = sym c.is_number.ensures ∙ c.if-not-is_number.false in
    let text : c.unwrap.result.now ≡ c.args.value.now = (rw c.unwrap.ensures at c.from_utf8.ensures.cases).0 in
    too_great c.args.value.now number
    (subst (λ (t : List ℕ). ¬ (IsNumeral 10 (without_leading_plus t)
    × (digits_value 10 (without_leading_plus t) < 2 ^ 32))) text c.in_default.ensures.value.0)
