-- Answers of tests.
use Rattle.std.proofs.Common.{◌≡◌, ◌≢◌, ◌<◌, ◌≤◌, ◌∷◌, [], ℕ, zero, suc, List, length, All, nat_le, Bool, true, false}
use Rattle.broker_model.specs.Words.{Option, None, is_some, list_all, OnTrue, refl, sym, ◌∙◌, ap, get_or, arith}
use Rattle.broker_model.specs.Words.{false≢true, and_parts, leb-true, ltb-true, All-cons, All-nil, most_custom_metadata}
use Rattle.broker_model.specs.Words.{longest_custom_name, longest_custom_value, IsCustomPair, Text, IsShortPair, IsMeta}
use Rattle.soundness.specs.Words.{is_fit, are_fit}

-- what follows from a test that passes
pub on_true : {P : Type 0} (b : Bool) → (b ≡ true → P) → OnTrue b P
on_true true f = f refl
on_true false f = tt

-- what is there
pub filled : {X : Type 0} (o p : Option X) → p ≡ o → is_some p ≡ true → o ≢ None
filled o p is some none = false≢true (sym (ap is_some (is ∙ none)) ∙ some)

-- what a test that passed tells
pub from_true : {P : Type 0} (b : Bool) → b ≡ true → OnTrue b P → P
from_true true is p = p
from_true false is p = absurd (false≢true is)

-- what a test of each of a list tells
pub all_from : {X : Type 0} (p : X → Bool) (xs : List X) → list_all p xs ≡ true → All (λ x. p x ≡ true) xs
all_from p [] h = All-nil (λ x. p x ≡ true)
all_from p (x ∷ xs) h =
    let two = and_parts (p x) (list_all p xs) h in
    All-cons (λ x. p x ≡ true) x xs two.0 (all_from p xs two.1)

-- custom metadata that fits
fit_pair : (e : Text × Text) → is_fit e ≡ true → IsShortPair e → IsCustomPair e.0 e.1
fit_pair e fits short =
    let two = and_parts _ _ fits in
    let more = and_parts _ _ two.1 in
    record {
      name_utf8 = short.0.utf8;
      value_utf8 = short.1.utf8;
      name_given = ltb-true 0 (length e.0) two.0;
      name_short = leb-true (length e.0) longest_custom_name more.0;
      value_short = leb-true (length e.1) longest_custom_value more.1;
    }

pub fit_metadata : (es : List (Text × Text)) → are_fit es ≡ true → IsMeta es
    → (length es ≤ most_custom_metadata) × All (λ e. IsCustomPair e.0 e.1) es
fit_metadata es fits meta =
    let two = and_parts (nat_le (length es) most_custom_metadata) (list_all is_fit es) fits in (
      leb-true (length es) most_custom_metadata two.0,
      λ k d h. fit_pair (get_or es k d) (all_from is_fit es two.1 k d h) (meta.members.each k d h),
    )

-- a number that is not 0
pub positive : (n : ℕ) → (n ≡ 0 → ⊥) → 0 < n
positive zero h = absurd (h refl)
positive (suc n) h = omega arith
