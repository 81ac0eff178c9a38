-- Words of bodies, taken apart.
use Rattle.std.proofs.Common.{◌≡◌, ◌≢◌, ◌==◌, ◌<◌, ◌∷◌, ◌++◌, [], Option, Some, None, option_map, Bor}
use Rattle.std.proofs.Common.{length, refl, sym, ap, ap₂, arith, false}
use Rattle.std.specs.Prelude.{MatchOption, nat_lt}
use Rattle.std.specs.List.{position_or_len, before_first, after_first}
use Rattle.broker_types.specs.Words.{eqb-true, false_from_ne_true, lt-ltb, ltb-true, Text}
use Rattle.command_line.specs.BodyWords.{after_at, before_colon, is_equals, split_at_equals}

no_at : (t : Text) → ((rest : Text) → t ≢ 64 ∷ rest) → after_at t ≡ None
no_at [] none = refl
no_at (c ∷ cs) none =
    rw (false_from_ne_true (c == 64) (λ e. none cs (ap (λ n. n ∷ cs) (eqb-true c 64 e)))) refl

pub stripped_at : (t : Text) (r : Option (Bor Text))
    → MatchOption r ((rest : Text) → t ≢ 64 ∷ rest) (λ x. t ≡ 64 ∷ x.now)
    → option_map (λ x. x.now) r ≡ after_at t
stripped_at t None none = sym (no_at t none)
stripped_at t (Some x) is = rw is refl

colon_after : (front : Text) → before_colon (front ++ 58 ∷ []) ≡ Some front
colon_after [] = refl
colon_after (x ∷ []) = refl
colon_after (x ∷ y ∷ xs) = ap (option_map (λ t. x ∷ t)) (colon_after (y ∷ xs))

no_colon : (t : Text) → ((front : Text) → t ≢ front ++ 58 ∷ []) → before_colon t ≡ None
no_colon [] none = refl
no_colon (x ∷ []) none =
    rw (false_from_ne_true (x == 58) (λ e. none [] (ap (λ n. n ∷ []) (eqb-true x 58 e)))) refl
no_colon (x ∷ y ∷ xs) none =
    ap (option_map (λ t. x ∷ t)) (no_colon (y ∷ xs) (λ front e. none (x ∷ front) (ap (λ (t : Text). x ∷ t) e)))

pub stripped_colon : (t : Text) (r : Option (Bor Text))
    → MatchOption r ((front : Text) → t ≢ front ++ 58 ∷ []) (λ x. t ≡ x.now ++ 58 ∷ [])
    → option_map (λ x. x.now) r ≡ before_colon t
stripped_colon t None none = sym (no_colon t none)
stripped_colon t (Some x) is = rw is (sym (colon_after x.now))

pub split_at : (t : Text) (r : Option (Bor Text × Bor Text))
    → MatchOption r (position_or_len is_equals t ≡ length t) (λ x. (position_or_len is_equals t < length t)
    × (x.0.now ≡ before_first is_equals t) × (x.1.now ≡ after_first is_equals t))
    → option_map (λ x. (x.0.now, x.1.now)) r ≡ split_at_equals t
split_at t None past =
    let never : nat_lt (position_or_len is_equals t) (length t) ≡ false =
    false_from_ne_true _ (λ e. absurd (omega (arith, past, ltb-true _ _ e))) in
    rw never refl
split_at t (Some x) (inside, front, back) =
    rw (lt-ltb _ _ inside) (ap₂ (λ (a b : Text). Some (a, b)) front back)
