-- Entries of rows, as elements of their list (this project's).
use Rattle.std.proofs.Common.{◌≡◌, ◌⊎◌, ◌∷◌, List, [], Bool, true, false, cond, T, map, filter, Some, All, Contains, ap}
use Rattle.broker_types.specs.Words.{Ordering, eq_by_cmp, is_eq, ordering_then, IsTotalOrder, eq_by_cmp_equiv}
use Rattle.broker_types.specs.Words.{nat_cmp_total, tied_itself, IsAntisymmetric, get, entries, find, is_sorted}
use Rattle.broker_types.specs.Words.{entries_sorted, get-entries, below_all, AllByRecursion, IsDistinct, lookup, refl}
use Rattle.broker_types.specs.Words.{sym, ◌∙◌, subst, inl, inr, ⊎_elim, arith, All-head, All-tail, All-filter}
use Rattle.broker_types.specs.Words.{filter_passes, All-contains_itself, Contains-append_left, Contains-append_right}
use Rattle.broker_types.specs.Words.{Contains-append_cases, Contains-push_cases, IsDistinct-keys_filter}
use Rattle.broker_types.specs.Words.{lookup-from_Contains, none-some, same_Some, Text, text_cmp, same}
use Rattle.broker_types.specs.TextLaws.{same-text_cmp}
use Rattle.broker_types.specs.TestLaws.{is_equal, less_apart, T_left, T_right}
use Rattle.records.specs.declared.kind.Kind.{Kind}
use Rattle.records.specs.declared.row.Row.{Row}
use Rattle.records.specs.Kind.{RowKey, key_cmp, kind_number}
use Rattle.records.specs.KeyLaws.{key_cmp_total, key_cmp_exact}
use Rattle.records.specs.Transaction.{Rows}

-- ---- elements

module _ {X : Type 0} where
  -- an element is the head, or one of the others
  pub element_cases : (x : X) (xs : List X) (y : X) → Contains (x ∷ xs) y → (x ≡ y) ⊎ Contains xs y
  element_cases x xs y h =
      ⊎_elim (λ first. ⊎_elim (λ none. absurd (omega (arith, none.1))) inl (Contains-push_cases [] x y first)) inr
      (Contains-append_cases (x ∷ []) xs y h)

  -- what passes is kept
  pub Contains-filter : (p : X → Bool) (xs : List X) (x : X) → Contains xs x → p x ≡ true → Contains (filter p xs) x
  Contains-filter p [] x h passes = absurd (omega (arith, h.1))
  Contains-filter p (y ∷ ys) x h passes =
      ⊎_elim
      (λ (is : y ≡ x). subst (λ b. Contains (cond b (y ∷ filter p ys) (filter p ys)) x) (sym (ap p is ∙ passes))
      (subst (λ z. Contains (y ∷ filter p ys) z) is
      (Contains-append_left (y ∷ []) (filter p ys) y (All-contains_itself (y ∷ []) 0 y (omega arith)))))
      (λ later. shift (p y) (Contains-filter p ys x later passes))
      (element_cases y ys x h)
    where
      shift : (b : Bool) → Contains (filter p ys) x → Contains (cond b (y ∷ filter p ys) (filter p ys)) x
      shift true at = Contains-append_right (y ∷ []) (filter p ys) x at
      shift false at = at

  -- and is an element that passes
  pub kept_cases : (p : X → Bool) (xs : List X) → All (λ x. Contains xs x × (p x ≡ true)) (filter p xs)
  kept_cases p xs k d below =
      (All-filter p (Contains xs) xs (All-contains_itself xs) k d below, filter_passes p xs k d below)

-- ---- entries in the order of their keys

module _ {K X : Type 0} (R : K → K → Ordering) where
  -- what is found is an entry
  pub found_in : IsAntisymmetric R → (key : K) (x : X) (es : List (K × X)) → find R key es ≡ Some x
      → Contains es (key, x)
  found_in exact key x [] h = absurd (none-some _ h)
  found_in exact key x (e ∷ es) h =
      elim (eq_by_cmp R key e.0) as (λ b. eq_by_cmp R key e.0 ≡ b → cond b (Some e.1) (find R key es) ≡ Some x
      → Contains (e ∷ es) (key, x)) [
        | true ↦ λ at found.
            let keys : key ≡ e.0 = exact key e.0 (is_equal (R key e.0) at) in
            subst (λ z. Contains (e ∷ es) z) (λ i. (sym keys i, same_Some _ _ found i))
            (Contains-append_left (e ∷ []) es e (All-contains_itself (e ∷ []) 0 e (omega arith)))
        | false ↦ λ _ found. Contains-append_right (e ∷ []) es (key, x) (found_in exact key x es found)
      ] refl h

  all_apart : (key : K) (es : List (K × X)) → T (below_all R key es)
      → AllByRecursion (λ y. eq_by_cmp R key y ≡ false) (map (λ e. e.0) es)
  all_apart key [] h = tt
  all_apart key (e ∷ es) h = (less_apart (R key e.0) (T_left _ _ h), all_apart key es (T_right _ _ h))

  -- each key is that of one
  pub sorted_once : (es : List (K × X)) → T (is_sorted R es) → IsDistinct (eq_by_cmp R) (map (λ e. e.0) es)
  unfolding IsDistinct
  sorted_once [] h = tt
  sorted_once (e ∷ es) h = (all_apart e.0 es (T_left _ _ h), sorted_once es (T_right _ _ h))

  found_as : (key : K) (es : List (K × X)) → find R key es ≡ lookup (eq_by_cmp R key) es
  found_as key [] = refl
  found_as key (e ∷ es) = ap (cond (eq_by_cmp R key e.0) (Some e.1)) (found_as key es)

  -- an entry is found
  pub in_found : IsTotalOrder R → (es : List (K × X)) → T (is_sorted R es) → (e : K × X) → Contains es e
      → find R e.0 es ≡ Some e.1
  in_found total es sorted e h =
      found_as e.0 es ∙ lookup-from_Contains (eq_by_cmp_equiv total) e.0 e.1 es (sorted_once es sorted) h

-- ---- the entries of rows

-- a row is an entry
pub entry_at : (rows : Rows) (key : RowKey) (row : Row) → get rows key ≡ Some row → Contains (entries rows) (key, row)
entry_at rows key row h = found_in key_cmp key_cmp_exact key row (entries rows) (sym (get-entries rows key) ∙ h)

-- each key is that of one entry
pub entries_once : (rows : Rows) → IsDistinct (eq_by_cmp key_cmp) (map (λ e. e.0) (entries rows))
entries_once rows = sorted_once key_cmp (entries rows) (entries_sorted rows)

-- an entry is a row
pub at_entry : (rows : Rows) (e : RowKey × Row) → Contains (entries rows) e → get rows e.0 ≡ Some e.1
at_entry rows e h =
    get-entries rows e.0 ∙ in_found key_cmp key_cmp_total (entries rows) (entries_sorted rows) e h

-- ---- those that pass a test

module _ (rows : Rows) (p : RowKey × Row → Bool) where
  -- each is a row, and passes
  pub passing_each : All (λ e. (get rows e.0 ≡ Some e.1) × (p e ≡ true)) (filter p (entries rows))
  passing_each k d below =
      let e = kept_cases p (entries rows) k d below in
      (at_entry rows _ e.0, e.1)

  -- each row that passes is one of them
  pub passing_whole : (key : RowKey) (row : Row) → get rows key ≡ Some row → p (key, row) ≡ true
      → Contains (filter p (entries rows)) (key, row)
  passing_whole key row is passes = Contains-filter p (entries rows) (key, row) (entry_at rows key row is) passes

  -- each key is that of one
  pub passing_once : IsDistinct (eq_by_cmp key_cmp) (map (λ e. e.0) (filter p (entries rows)))
  passing_once = IsDistinct-keys_filter (eq_by_cmp key_cmp) p (entries rows) (entries_once rows)

-- ---- entries of one kind

module _ (kind : Kind) where
  same_keys : (k l : Kind) (q t : Text) → k ≡ kind → l ≡ kind → eq_by_cmp key_cmp (k, q) (l, t) ≡ same q t
  same_keys k l q t is_k is_l =
      (λ i. eq_by_cmp key_cmp (is_k i, q) (is_l i, t))
      ∙ ap (λ o. is_eq (ordering_then o (text_cmp q t))) (tied_itself nat_cmp_total (kind_number kind))
      ∙ sym (same-text_cmp q t)

  abbrev IsOfKind : RowKey × Row → Type 0
  IsOfKind e = e.0.0 ≡ kind

  texts_apart : (e : RowKey × Row) (es : List (RowKey × Row)) → IsOfKind e → All IsOfKind es
      → AllByRecursion (λ y. eq_by_cmp key_cmp e.0 y ≡ false) (map (λ e. e.0) es)
      → AllByRecursion (λ t. same e.0.1 t ≡ false) (map (λ e. e.0.1) es)
  texts_apart e [] is all h = tt
  texts_apart e (f ∷ fs) is all h = (
    sym (same_keys e.0.0 f.0.0 e.0.1 f.0.1 is (All-head IsOfKind f fs all)) ∙ h.0,
    texts_apart e fs is (All-tail IsOfKind f fs all) h.1,
  )

  -- entries of one kind, each key once, have each text once
  pub texts_once : (es : List (RowKey × Row)) → All IsOfKind es → IsDistinct (eq_by_cmp key_cmp) (map (λ e. e.0) es)
      → IsDistinct same (map (λ e. e.0.1) es)
  unfolding IsDistinct
  texts_once [] all once = tt
  texts_once (e ∷ es) all once = (
    texts_apart e es (All-head IsOfKind e es all) (All-tail IsOfKind e es all) once.0,
    texts_once es (All-tail IsOfKind e es all) once.1,
  )
