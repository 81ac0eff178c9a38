-- Texts of visible characters, as values of fields.
use Rattle.api_client.specs.Words.{◌≡◌, ◌^◌, ◌<◌, ◌≤◌, ◌&&◌, ◌∷◌, ℕ, true, false, List, [], length, reverse, All}
use Rattle.api_client.specs.Words.{IsUtf8, decimal, refl, arith, nat_lt, nat_le, list_all, digit_value, AllDigits}
use Rattle.api_client.specs.Words.{and_parts, leb-true, ltb-true, nat_tests, decimal_is_IsNumeral, All-cons, All-head}
use Rattle.api_client.specs.Words.{All-nil, All-weaker, AllPass-from_list_all, IsUtf8-from_ascii, IsAscii-from_all}
use Rattle.api_client.specs.Words.{is_ows, is_value_byte, skip_ows, trim_ows, AllPass-reverse, trim_ows_space}
use Rattle.api_client.specs.Words.{is_field_text, is_visible, longest_argument}

-- each character is visible
abbrev pub AreVisible : List ℕ → Type 0
AreVisible t = All (λ b. is_visible b ≡ true) t

no_white : (b : ℕ) → is_visible b ≡ true → is_ows b ≡ false
no_white b visible = grind (arith, nat_tests)

skip_visible : (t : List ℕ) → AreVisible t → skip_ows t ≡ t
skip_visible [] visible = refl
skip_visible (b ∷ bs) visible =
    rw (no_white b (All-head (λ c. is_visible c ≡ true) b bs visible)) refl

-- the value of a field is what stands behind the colon and a space
pub trim_visible : (t : List ℕ) → AreVisible t → trim_ows (32 ∷ t) ≡ t
trim_visible t visible = trim_ows_space t (skip_visible t visible)
    (skip_visible (reverse t) (AllPass-reverse is_visible t visible))

value_byte : (b : ℕ) → is_visible b ≡ true → is_value_byte b ≡ true
value_byte b visible = grind (arith, nat_tests)

-- it can stand in a field
pub field_raw : (t : List ℕ) → AreVisible t → All (λ b. is_value_byte b ≡ true) (32 ∷ t)
field_raw t visible =
    All-cons (λ b. is_value_byte b ≡ true) 32 t refl
    (All-weaker (λ b. is_visible b ≡ true) (λ b. is_value_byte b ≡ true) value_byte t visible)

ascii : (b : ℕ) → is_visible b ≡ true → b < 128
ascii b visible = grind (arith, nat_tests)

pub visible_text : (t : List ℕ) → AreVisible t → IsUtf8 t
visible_text t visible = IsUtf8-from_ascii t
    (IsAscii-from_all t (All-weaker (λ b. is_visible b ≡ true) (λ b. b < 128) ascii t visible))

-- what a value of a field is
pub field_parts : (t : List ℕ) → is_field_text t ≡ true → (0 < length t) × (length t ≤ longest_argument) × AreVisible t
field_parts t good =
    let p = and_parts (nat_lt 0 (length t) && nat_le (length t) longest_argument) (list_all is_visible t) good in
    let q = and_parts (nat_lt 0 (length t)) (nat_le (length t) longest_argument) p.0 in
    (ltb-true 0 (length t) q.0, leb-true (length t) longest_argument q.1, AllPass-from_list_all is_visible t p.1)

-- ---- numbers

digit_visible : (c : ℕ) → digit_value c < 10 → is_visible c ≡ true
digit_visible c small = grind (arith, nat_tests)

digits_visible : (ds : List ℕ) → AllDigits 10 ds → AreVisible ds
digits_visible [] h = All-nil (λ b. is_visible b ≡ true)
digits_visible (c ∷ cs) h = All-cons (λ b. is_visible b ≡ true) c cs (digit_visible c h.0) (digits_visible cs h.1)

-- the digits of a number are visible
pub decimal_visible : (n : ℕ) → n < 2 ^ 64 → AreVisible (decimal n)
decimal_visible n small = digits_visible (decimal n) (decimal_is_IsNumeral n small).0.1
