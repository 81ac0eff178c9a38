-- What the keys of versions tell, from the laws of these keys.
use Rattle.std.proofs.Common.{◌≡◌, ◌<◌, ◌^◌, ◌==◌, ◌∷◌, ◌++◌, [], ℕ, nat_lt, not, true, None, sym, ◌∙◌, ap, arith}
use Rattle.records.specs.Words.{nat_cmp, is_le, is_eq, eqb-true, Text, text_cmp, same, same-text_cmp, same_self}
use Rattle.records.specs.Words.{greatest_version, IsSecretName, padded, version_of_digits, line_feed, lacks}
use Rattle.records.specs.Words.{lacking_split, none_of, DigitsTellTheVersion, OnlyDigitsTellAVersion, DigitsAreInOrder}
use Rattle.records.specs.Words.{NamesAreSplitOff}
use Rattle.records.specs.TableLaws.{eq-nat_cmp}
use Rattle.records.specs.DigitLaws.{wide}

-- the laws of the keys of versions
pub record KeyLaws : Type 0 where
  pub told : DigitsTellTheVersion
  pub exact : OnlyDigitsTellAVersion
  pub order : DigitsAreInOrder
  pub split : NamesAreSplitOff

ranks : (n m : ℕ) → is_le (nat_cmp n m) ≡ not (nat_lt m n)
ranks n m = grind arith

module _ (laws : KeyLaws) where
  -- the name of a secret has no line feed
  pub name_lacks : (q : Text) → IsSecretName q → lacks line_feed q ≡ true
  name_lacks q name = (lacking_split line_feed (q ++ line_feed ∷ []) (q, []) (laws.split q [] name)).1

  pub same_digits : (n m : ℕ) → n < 2 ^ 64 → m < 2 ^ 64 → same (padded n) (padded m) ≡ (n == m)
  same_digits n m g h = same-text_cmp (padded n) (padded m) ∙ ap is_eq (laws.order n m g h) ∙ eq-nat_cmp n m

  pub upto_digits : (n m : ℕ) → n < 2 ^ 64 → m < 2 ^ 64 → is_le (text_cmp (padded n) (padded m)) ≡ not (nat_lt m n)
  upto_digits n m g h = ap is_le (laws.order n m g h) ∙ ranks n m

  -- a number that no version has is told by no digits
  pub untold : (n : ℕ) → n < 2 ^ 64 → greatest_version < n → version_of_digits (padded n) ≡ None
  untold n g above = none_of (version_of_digits (padded n)) (λ m e.
      let one = laws.exact (padded n) m e in
      let met : (n == m) ≡ true = sym (same_digits n m g (wide m one.0)) ∙ ap (λ z. same z (padded m)) one.1
      ∙ same_self (padded m) in
      let same_number : n ≡ m = eqb-true n m met in
      let few = one.0 in
      absurd (omega (arith, above, few, same_number)))
