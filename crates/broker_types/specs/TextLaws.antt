-- Laws of whether two texts are the same.
use Rattle.std.proofs.Common.{◌≡◌, ◌≢◌, true, false, refl, sym, subst}
use Rattle.broker_types.specs.Words.{IsEquivalence, eq_by_cmp_equiv, nat_list_cmp_total, eq_by_cmp, false_from_ne_true}
use Rattle.broker_types.specs.Words.{bytes_eq-Decides, is_eq-slice_cmp, Text, text_cmp, same}

-- by the order of texts
pub same-text_cmp : (a b : Text) → same a b ≡ eq_by_cmp text_cmp a b
unfolding same
same-text_cmp a b = sym (is_eq-slice_cmp a b)

-- a text is the same as itself
pub same_self : (a : Text) → same a a ≡ true
unfolding same
same_self a = (bytes_eq-Decides a a).1 refl

-- texts that are the same are equal
pub same_true : (a b : Text) → same a b ≡ true → a ≡ b
unfolding same
same_true a b e = (bytes_eq-Decides a b).0 e

-- texts that differ are not the same
pub same_false : (a b : Text) → a ≢ b → same a b ≡ false
same_false a b differ = false_from_ne_true (same a b) (λ e. differ (same_true a b e))

-- to be the same is an equivalence
pub same_equiv : IsEquivalence same
same_equiv =
    let by_order : eq_by_cmp text_cmp ≡ same = λ i a b. sym (same-text_cmp a b) i in
    subst IsEquivalence by_order (eq_by_cmp_equiv nat_list_cmp_total)
