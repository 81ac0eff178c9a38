-- Laws of texts among others.
use Rattle.std.proofs.Common.{◌≡◌, ◌||◌, ◌∷◌, List, [], Bool, true, false, refl, sym, ◌∙◌, ap}
use Rattle.broker_types.specs.Words.{list_any, eq_by_cmp, or_right, false≢true, Text, text_cmp, same}
use Rattle.broker_types.specs.TextLaws.{same-text_cmp, same_self, same_true}
use Rattle.records.specs.Children.{has}

-- a text that passes, if one does
pub any_found : (p : Text → Bool) (ts : List Text) → list_any p ts ≡ true
    → (t : Text) × (has ts t ≡ true) × (p t ≡ true)
any_found p [] h = absurd (false≢true h)
any_found p (t ∷ ts) h =
    elim (p t) as (λ v. p t ≡ v → (v || list_any p ts) ≡ true → (u : Text) × (has (t ∷ ts) u ≡ true) × (p u ≡ true)) [
      | true ↦ λ is _. (t, ap (λ v. v || list_any (same t) ts) (same_self t), is)
      | false ↦ λ _ later.
          let f = any_found p ts later in
          (f.0, or_right (same f.0 t) (has ts f.0) f.1, f.2)
    ] refl h

-- and what one of the texts passes
pub any_from : (p : Text → Bool) (ts : List Text) (t : Text) → has ts t ≡ true → p t ≡ true → list_any p ts ≡ true
any_from p [] t h is = absurd (false≢true h)
any_from p (u ∷ ts) t h is =
    elim (same t u) as (λ v. same t u ≡ v → (v || has ts t) ≡ true → (p u || list_any p ts) ≡ true) [
      | true ↦ λ at _. ap (λ v. v || list_any p ts) (ap p (sym (same_true t u at)) ∙ is)
      | false ↦ λ _ later. or_right (p u) (list_any p ts) (any_from p ts t later is)
    ] refl h

-- by the order of texts
pub has_by_order : (q : Text) (ts : List Text) → has ts q ≡ list_any (eq_by_cmp text_cmp q) ts
has_by_order q [] = refl
has_by_order q (t ∷ ts) = λ i. same-text_cmp q t i || has_by_order q ts i
