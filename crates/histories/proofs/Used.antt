-- Laws of the identifiers that were given out.
use Rattle.std.proofs.Common.{◌≡◌, ◌≢◌, ◌⊎◌, ◌++◌, ◌∷◌, ◌||◌, List, [], true, false, not, cond, Some, None, is_none, ap}
use Rattle.broker_model.specs.Words.{⊤, list_any, IsDistinct, refl, sym, ◌∙◌, subst, inl, inr, false≢true, and_parts}
use Rattle.broker_model.specs.Words.{and_from, not-true, none-some, Text, same, Map, get, put, get-put, same_self}
use Rattle.broker_model.specs.Words.{same_true, are_new, use_up, all_apart}

-- ---- lists

any_append : (i : Text) (xs ys : List Text) → list_any (same i) xs ≡ false → list_any (same i) ys ≡ false
    → not (list_any (same i) (xs ++ ys)) ≡ true
any_append i [] ys h k = ap not k
any_append i (x ∷ xs) ys h k =
    elim (same i x) as (λ b. (b || list_any (same i) xs) ≡ false → not (b || list_any (same i) (xs ++ ys)) ≡ true) [
      | true ↦ λ e. absurd (false≢true (sym e))
      | false ↦ λ e. any_append i xs ys e k
    ] h

same_sym : (a b : Text) → same a b ≡ true → same b a ≡ true
same_sym a b e = subst (λ z. same z a ≡ true) (same_true a b e) (same_self a)

-- ---- new identifiers

-- what is new beside one more is new, and is not that one
weaken : (m : Map ⊤) (x : Text) (ys : List Text) → are_new (put m x tt) ys ≡ true
    → (are_new m ys ≡ true) × (list_any (same x) ys ≡ false)
weaken m x [] h = (refl, refl)
weaken m x (y ∷ ys) h =
    let p = and_parts _ _ h in
    let q = and_parts _ _ p.1 in
    let rest = weaken m x ys q.1 in
    let here : is_none (cond (same y x) (Some tt) (get m y)) ≡ true = ap is_none (sym (get-put m x tt y)) ∙ p.0 in
    let apart : same y x ≡ false =
    elim (same y x) as (λ b. is_none (cond b (Some tt) (get m y)) ≡ true → b ≡ false) [
      | true ↦ λ e. absurd (false≢true e)
      | false ↦ λ _. refl
    ] here in
    let other : same x y ≡ false = elim (same x y) as (λ b. same x y ≡ b → b ≡ false) [
      | true ↦ λ e. absurd (false≢true (sym apart ∙ same_sym x y e))
      | false ↦ λ _. refl
    ] refl in (
      and_from _ _ (ap (λ b. is_none (cond b (Some tt) (get m y))) (sym apart) ∙ here) (and_from _ _ q.0 rest.0),
      ap (λ b. b || list_any (same x) ys) other ∙ rest.1,
    )

-- identifiers that are given out one list after another are new together
pub new_append : (m : Map ⊤) (xs ys : List Text) → are_new m xs ≡ true → are_new (use_up m xs) ys ≡ true
    → are_new m (xs ++ ys) ≡ true
new_append m [] ys h k = k
new_append m (x ∷ xs) ys h k =
    let p = and_parts _ _ h in
    let q = and_parts _ _ p.1 in
    let w = weaken (use_up m xs) x ys k in
    and_from _ _ p.0 (and_from _ _ (any_append x xs ys (not-true _ q.0) w.1) (new_append m xs ys q.1 w.0))

-- new identifiers all differ
pub new_differ : (m : Map ⊤) (xs : List Text) → are_new m xs ≡ true → IsDistinct same xs
unfolding IsDistinct
new_differ m [] h = tt
new_differ m (x ∷ xs) h =
    let p = and_parts _ _ h in
    let q = and_parts _ _ p.1 in
    (all_apart x xs (not-true _ q.0), new_differ m xs q.1)

-- ---- one of many

-- what is used with these is one of them, or was used before
pub used_or : (m : Map ⊤) (is : List Text) (i : Text) → get (use_up m is) i ≢ None
    → (list_any (same i) is ≡ true) ⊎ (get m i ≢ None)
used_or m [] i used = inr used
used_or m (j ∷ js) i used =
    elim (same i j) as (λ v. (cond v (Some (tt {0})) (get (use_up m js) i) ≢ None)
    → ((v || list_any (same i) js) ≡ true) ⊎ (get m i ≢ None)) [
      | true ↦ λ _. inl refl
      | false ↦ λ rest. used_or m js i rest
    ] (λ none. used (get-put (use_up m js) j (tt {0}) i ∙ none))

pub any_left : (i : Text) (xs ys : List Text) → list_any (same i) xs ≡ true → list_any (same i) (xs ++ ys) ≡ true
any_left i (x ∷ xs) ys h =
    elim (same i x) as (λ v. (v || list_any (same i) xs) ≡ true → (v || list_any (same i) (xs ++ ys)) ≡ true) [
      | true ↦ λ _. refl
      | false ↦ λ e. any_left i xs ys e
    ] h
any_left i [] ys h = absurd (false≢true h)

pub any_right : (i : Text) (xs ys : List Text) → list_any (same i) ys ≡ true → list_any (same i) (xs ++ ys) ≡ true
any_right i [] ys h = h
any_right i (x ∷ xs) ys h = elim (same i x) as (λ v. (v || list_any (same i) (xs ++ ys)) ≡ true) [
  | true ↦ refl
  | false ↦ any_right i xs ys h
]

-- what is given out is used then
pub member_used : (m : Map ⊤) (is : List Text) (i : Text) → list_any (same i) is ≡ true → get (use_up m is) i ≢ None
member_used m [] i among none = absurd (false≢true among)
member_used m (j ∷ js) i among none =
    elim (same i j) as (λ v. (v || list_any (same i) js) ≡ true → cond v (Some (tt {0})) (get (use_up m js) i) ≡ None
    → ⊥) [
      | true ↦ λ _ e. none-some _ (sym e)
      | false ↦ λ rest e. member_used m js i rest e
    ] among (sym (get-put (use_up m js) j (tt {0}) i) ∙ none)
