-- Laws of searches among the entries of a map (this project's).
use Rattle.std.specs.Prelude.{◌≡◌, ◌∷◌, if◌then◌else◌, List, [], Bool, true, false, cond, T, Option, Some, None, All}
use Rattle.broker_types.specs.Words.{option_and_then, is_sorted, lookup, below_all, refl, sym, ◌∙◌, ap, subst, inl, inr}
use Rattle.broker_types.specs.Words.{All-cons, All-nil, false≢true, none-some, same_Some, Text, text_cmp, same, Map}
use Rattle.broker_types.specs.Words.{get, entries, keep, first_where}
use Rattle.std.specs.List.{find as first}
use Rattle.std.specs.FinMap as fin
use Rattle.broker_types.specs.TextLaws.{same-text_cmp, same_self, same_true}
use Rattle.broker_types.specs.MapLaws.{get-keep, get-lookup}
use Rattle.broker_types.specs.OptionLaws.{found_or_not}
use Rattle.broker_types.specs.TestLaws.{T_left, T_right, less_apart}

module _ {X : Type 0} where
  -- a key below all keys is not found
  below_none : (k : Text) (es : List (Text × X)) → T (below_all text_cmp k es) → lookup (same k) es ≡ None
  below_none k [] h = refl
  below_none k (e ∷ es) h =
      ap (λ b. cond b (Some e.1) (lookup (same k) es)) (same-text_cmp k e.0 ∙ less_apart (text_cmp k e.0)
      (T_left _ _ h))
      ∙ below_none k es (T_right _ _ h)

  found_is : (p : Text × X → Bool) (es : List (Text × X)) (e : Text × X) → T (is_sorted text_cmp es)
      → first p es ≡ Some e → (lookup (same e.0) es ≡ Some e.1) × (p e ≡ true)
  found_is p [] e s h = absurd (none-some _ h)
  found_is p (f ∷ es) e s h =
      elim (p f) as
      (λ b. p f ≡ b → cond b (Some f) (first p es) ≡ Some e
      → (lookup (same e.0) (f ∷ es) ≡ Some e.1) × (p e ≡ true)) [
        | true ↦ λ passes is. let one : f ≡ e = same_Some _ _ is in
            subst (λ z. (lookup (same z.0) (f ∷ es) ≡ Some z.1) × (p z ≡ true)) one
            (ap (λ b. cond b (Some f.1) (lookup (same f.0) es)) (same_self f.0), passes)
        | false ↦ λ fails is.
            let rest = found_is p es e (T_right _ _ s) is in (
              elim (same e.0 f.0) as (λ b. same e.0 f.0 ≡ b → cond b (Some f.1) (lookup (same e.0) es) ≡ Some e.1) [
                | true ↦ λ at. absurd
                    (none-some _
                    (sym (subst (λ z. lookup (same z) es ≡ None) (sym (same_true e.0 f.0 at))
                    (below_none f.0 es (T_left _ _ s))) ∙ rest.0))
                | false ↦ λ _. rest.0
              ] refl,
              rest.1,
            )
      ] refl h

  none_passes : (p : Text × X → Bool) (es : List (Text × X)) (t : Text) (x : X) → first p es ≡ None
      → lookup (same t) es ≡ Some x → p (t, x) ≡ false
  none_passes p [] t x h f = absurd (none-some _ f)
  none_passes p (e ∷ es) t x h f =
      elim (p e) as (λ b. p e ≡ b → cond b (Some e) (first p es) ≡ None → p (t, x) ≡ false) [
        | true ↦ λ _ is. absurd (none-some _ (sym is))
        | false ↦ λ fails is. elim (same t e.0)
            as (λ b. same t e.0 ≡ b → cond b (Some e.1) (lookup (same t) es) ≡ Some x → p (t, x) ≡ false) [
              | true ↦ λ at g. (λ i. p (same_true t e.0 at i, same_Some _ _ (sym g) i)) ∙ fails
              | false ↦ λ _ g. none_passes p es t x is g
            ] refl f
      ] refl h

  each_found : (P : Text × X → Type 0) (es : List (Text × X)) → T (is_sorted text_cmp es)
      → ((t : Text) (x : X) → lookup (same t) es ≡ Some x → P (t, x)) → All P es
  each_found P [] s h = All-nil P
  each_found P (e ∷ es) s h =
      All-cons P e es (h e.0 e.1 (ap (λ b. cond b (Some e.1) (lookup (same e.0) es)) (same_self e.0)))
      (each_found P es (T_right _ _ s) (λ t x is. h t x (still t x is)))
    where
      still : (t : Text) (x : X) → lookup (same t) es ≡ Some x
          → cond (same t e.0) (Some e.1) (lookup (same t) es) ≡ Some x
      still t x is =
          elim (same t e.0) as (λ b. same t e.0 ≡ b → cond b (Some e.1) (lookup (same t) es) ≡ Some x) [
            | true ↦ λ at. absurd
                (none-some _
                (sym (subst (λ z. lookup (same z) es ≡ None) (sym (same_true t e.0 at))
                (below_none e.0 es (T_left _ _ s))) ∙ is))
            | false ↦ λ _. is
          ] refl

  -- what holds of each name and what the map has there holds of each entry
  pub each_entry : (P : Text × X → Type 0) (m : Map X) → ((t : Text) (x : X) → get m t ≡ Some x → P (t, x))
      → All P (entries m)
  each_entry P m h = each_found P (entries m) (fin.entries_sorted m) (λ t x is. h t x (get-lookup m t ∙ is))

  -- the entry that a search finds is in the map, and passes
  pub first_where_is : (p : Text → X → Bool) (m : Map X) (e : Text × X) → first_where p m ≡ Some e
      → (get m e.0 ≡ Some e.1) × (p e.0 e.1 ≡ true)
  first_where_is p m e h = let r = found_is (λ e. p e.0 e.1) (entries m) e (fin.entries_sorted m) h in
      (get-lookup m e.0 ∙ r.0, r.1)

  -- if a search finds none, no entry passes
  pub first_where_none : (p : Text → X → Bool) (m : Map X) (t : Text) (x : X) → first_where p m ≡ None
      → get m t ≡ Some x → p t x ≡ false
  first_where_none p m t x h g = none_passes (λ e. p e.0 e.1) (entries m) t x h (sym (get-lookup m t) ∙ g)

  -- no two entries pass
  abbrev pub OnePasses : (Text → X → Bool) → Map X → Type 0
  OnePasses p m = (t u : Text) (x y : X) → get m t ≡ Some x → get m u ≡ Some y → p t x ≡ true → p u y ≡ true → t ≡ u

  -- a search finds the only entry that passes
  pub first_where_only : (p : Text → X → Bool) (m : Map X) (t : Text) (x : X) → OnePasses p m → get m t ≡ Some x
      → p t x ≡ true → first_where p m ≡ Some (t, x)
  first_where_only p m t x one g h =
      elim (found_or_not (first_where p m)) [
        | inl none ↦ absurd (false≢true (sym (first_where_none p m t x none g) ∙ h))
        | inr found ↦
            let e = found.0 in
            let is = first_where_is p m e found.1 in
            let key : e.0 ≡ t = one e.0 t e.1 x is.0 g is.1 h in
            let value : e.1 ≡ x = same_Some _ _ (sym is.0 ∙ ap (get m) key ∙ g) in
            found.1 ∙ (λ i. Some (key i, value i))
      ]

  -- what is kept was in the map, and passes
  pub kept_get : (r : Text → Bool) (m : Map X) (t : Text) (x : X) → get (keep r m) t ≡ Some x
      → (get m t ≡ Some x) × (r t ≡ true)
  kept_get r m t x h =
      elim (r t) as (λ b. r t ≡ b → cond b (get m t) None ≡ Some x → (get m t ≡ Some x) × (r t ≡ true)) [
        | true ↦ λ is g. (g, is)
        | false ↦ λ _ g. absurd (none-some _ g)
      ] refl (sym (get-keep r m t) ∙ h)

  -- an entry that was found, if it is kept
  abbrev pub if_kept : (Text → Bool) → Option (Text × X) → Option (Text × X)
  if_kept r o = option_and_then (λ e. if r e.0 then Some e else None) o

  -- a search among what is kept, if at most one entry passes
  pub first_where-keep : (p : Text → X → Bool) (r : Text → Bool) (m : Map X) → OnePasses p m
      → first_where p (keep r m) ≡ if_kept r (first_where p m)
  first_where-keep p r m one =
      elim (found_or_not (first_where p (keep r m))) [
        | inr found ↦
            let e = found.0 in
            let is = first_where_is p (keep r m) e found.1 in
            let kept = kept_get r m e.0 e.1 is.0 in
            found.1 ∙ sym
            (ap (if_kept r) (first_where_only p m e.0 e.1 one kept.0 is.1)
            ∙ ap (λ b. if b then Some e else None) kept.1)
        | inl none ↦ none ∙ sym (elim (found_or_not (first_where p m)) [
          | inl nothing ↦ ap (if_kept r) nothing
          | inr found ↦
              let e = found.0 in
              let is = first_where_is p m e found.1 in
              ap (if_kept r) found.1 ∙ elim (r e.0) as (λ b. r e.0 ≡ b → (if b then Some e else None) ≡ None) [
                | true ↦ λ passes. absurd
                    (false≢true (sym
                    (first_where_none p (keep r m) e.0 e.1 none
                    (get-keep r m e.0 ∙ ap (λ b. cond b (get m e.0) None) passes ∙ is.0)) ∙ is.1))
                | false ↦ λ _. refl
              ] refl
        ])
      ]

  -- what passes in the first map is in the second too
  abbrev pub PassesInto : (Text → X → Bool) → Map X → Map X → Type 0
  PassesInto p m n = (t : Text) (x : X) → get m t ≡ Some x → p t x ≡ true → get n t ≡ Some x

  -- nothing is found if nothing passes
  pub none_found : (p : Text → X → Bool) (m : Map X) → ((t : Text) (x : X) → get m t ≡ Some x → p t x ≡ true → ⊥)
      → first_where p m ≡ None
  none_found p m h = elim (found_or_not (first_where p m)) [
    | inl none ↦ none
    | inr e ↦ let is = first_where_is p m e.0 e.1 in absurd (h e.0.0 e.0.1 is.0 is.1)
  ]

  -- the same is found if the same passes
  pub same_found : (p : Text → X → Bool) (m n : Map X) → OnePasses p n → PassesInto p m n → PassesInto p n m
      → first_where p m ≡ first_where p n
  same_found p m n one there back = elim (found_or_not (first_where p m)) [
    | inl none ↦ none ∙ sym (none_found p n (λ t x is passes.
        false≢true (sym (first_where_none p m t x none (back t x is passes)) ∙ passes)))
    | inr e ↦ let is = first_where_is p m e.0 e.1 in
        e.1 ∙ sym (first_where_only p n e.0.0 e.0.1 one (there e.0.0 e.0.1 is.0 is.1) is.1)
  ]
