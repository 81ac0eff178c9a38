-- What is written for a number is no longer than the text that it was read from.
use Rattle.std.proofs.Common.{◌≡◌, ◌+◌, ◌-◌, ◌<◌, ◌≤◌, ◌^◌, ◌&&◌, ◌==◌, ◌∷◌, ◌++◌, ℕ, zero, suc, nat_lt, nat_le, Bool}
use Rattle.broker_types.specs.Words.{true, false, cond, List, [], length, drop, slice_index, Option, Some, None, refl}
use Rattle.broker_types.specs.Words.{subst, arith, length-take, length-drop, and_parts, nat_tests, length-decimal-le}
use Rattle.broker_types.specs.Words.{digits_value-lt, length-append, prefix_len-le-length, same_Some, is_ascii_digit}
use Rattle.broker_types.specs.Words.{decimal, binary64, float_is_finite, AllDigits}
use Rattle.std.specs.List.{slice_range}
use Rattle.fast_float.specs.Text.{minus, dot, Parts, scan, digits_end, digits_of, nearest, with_sign}
use Rattle.fast_float.proofs.Reading.{scan_numeral-AllDigits}
use Rattle.serde_json.specs.Data.{Num, unsigned, negative, float}
use Rattle.serde_json.specs.Read.{number_of, number_from, float_of, is_integer}
use Rattle.serde_json.specs.Written.{number_text}

-- ---- the digits of a numeral

fraction_fits : (point : Bool) (bs : List ℕ) (a e : ℕ)
    → length (cond point (slice_range bs (a + 1) e) []) ≤ length bs - a
fraction_fits true bs a e = omega (arith, length-take (e - (a + 1)) (drop (a + 1) bs), length-drop (a + 1) bs)
fraction_fits false bs a e = omega arith

scan_fits : (bs : List ℕ) → length (scan bs).whole + length (scan bs).fraction ≤ length bs
unfolding scan
scan_fits bs =
    let a = digits_end bs 0 in
    let point = slice_index bs a == dot in
    omega (
      arith,
      length-take (a - 0) (drop 0 bs),
      prefix_len-le-length is_ascii_digit bs,
      fraction_fits point bs a (cond point (digits_end bs (a + 1)) a),
    )

digits_together : (xs ys : List ℕ) → AllDigits 10 xs → AllDigits 10 ys → AllDigits 10 (xs ++ ys)
digits_together [] ys p q = q
digits_together (x ∷ xs) ys p q = (p.0, digits_together xs ys p.1 q)

decimal_fits : (bs : List ℕ) → 0 < length (scan bs).whole → digits_of (scan bs) < 2 ^ 64
    → length (decimal (digits_of (scan bs))) ≤ length bs
decimal_fits bs some small =
    let p = scan bs in
    let are = scan_numeral-AllDigits bs in
    let below = digits_value-lt 10 (p.whole ++ p.fraction) (digits_together p.whole p.fraction are.0 are.1) in
    let count = length-append p.whole p.fraction in
    omega (
      arith,
      length-decimal-le (length (p.whole ++ p.fraction)) (digits_of p) (omega arith) below small,
      scan_fits bs,
    )

-- ---- numbers

abbrev IsWithin : ℕ → Num → Type 0
IsWithin m n = length (number_text n) ≤ m

negative_within : (n : ℕ) → IsWithin (1 + length (decimal n)) (negative (with_sign true n))
negative_within zero = omega arith
negative_within (suc n) = omega arith

float_within : (m : ℕ) (t : Bool) (x : _) (n : Num) → cond t (Some (float x)) None ≡ Some n → IsWithin m n
float_within m true x n e = subst (IsWithin m) (same_Some _ _ e) (omega arith)
float_within m false x n e = cc

either_within : (m : ℕ) (t : Bool) (w n : Num) (other : Option Num) → (t ≡ true → IsWithin m w)
    → (other ≡ Some n → IsWithin m n)
    → cond t (Some w) other ≡ Some n → IsWithin m n
either_within m true w n other whole floats e = subst (IsWithin m) (same_Some _ _ e) (whole refl)
either_within m false w n other whole floats e = floats e

integer_digits : (p : Parts) → is_integer p ≡ true → 0 < length p.whole
integer_digits p t = grind (arith, nat_tests)

unsigned_within : (bs : List ℕ) (n : Num) → number_from false (scan bs) ≡ Some n → IsWithin (length bs) n
unsigned_within bs n e =
    let p = scan bs in
    let x = nearest binary64 false p in
    either_within (length bs) (is_integer p && nat_lt (digits_of p) (2 ^ 64)) (unsigned (digits_of p)) n
    (float_of false p)
    (λ t. let h = and_parts (is_integer p) (nat_lt (digits_of p) (2 ^ 64)) t in
    let small : digits_of p < 2 ^ 64 = grind (arith, nat_tests) in decimal_fits bs (integer_digits p h.0) small)
    (float_within (length bs) (float_is_finite x) x n) e

negative_is_within : (bs : List ℕ) (n : Num) → number_from true (scan bs) ≡ Some n → IsWithin (1 + length bs) n
negative_is_within bs n e =
    let p = scan bs in
    let x = nearest binary64 true p in
    let fits = is_integer p && nat_lt 0 (digits_of p) && nat_le (digits_of p) (2 ^ 63) in
    either_within (1 + length bs) fits (negative (with_sign true (digits_of p))) n (float_of true p)
    (λ t. let h = and_parts (is_integer p && nat_lt 0 (digits_of p)) (nat_le (digits_of p) (2 ^ 63)) t in
    let g = and_parts (is_integer p) (nat_lt 0 (digits_of p)) h.0 in
    let small : digits_of p < 2 ^ 64 = grind (arith, nat_tests) in
    omega (arith, negative_within (digits_of p), decimal_fits bs (integer_digits p g.0) small))
    (float_within (1 + length bs) (float_is_finite x) x n) e

pub length-number_read : (s : List ℕ) (n : Num) → number_of s ≡ Some n → length (number_text n) ≤ length s
unfolding number_of
length-number_read [] n e = unsigned_within [] n e
length-number_read (x ∷ xs) n e = by (x == minus) e
  where
    by : (t : Bool) → cond t (number_from true (scan xs)) (number_from false (scan (x ∷ xs))) ≡ Some n
        → length (number_text n) ≤ length (x ∷ xs)
    by true e = omega (arith, negative_is_within xs n e)
    by false e = unsigned_within (x ∷ xs) n e
