-- What a list statement shows, in the order of keys.
use Rattle.std.specs.Prelude.{◌≡◌, ◌+◌, ◌∷◌, suc, Bool, true, false, not, cond, List, [], map, get_or, refl, filter}
use Rattle.records.specs.Words.{sym, ap, subst, ◌∙◌, arith, IsPermutation, IsSorted, list_all, AllByRecursion}
use Rattle.records.specs.Words.{IsDistinct, Ordering, Less, Equal, Greater, is_eq, is_lt, nat_cmp, eq_by_cmp}
use Rattle.records.specs.Words.{ordering_then, ordering_reverse, tied_itself, nat_cmp_total, eq_by_cmp_equiv, slice_cmp}
use Rattle.records.specs.Words.{entries, is_sorted, from_entries, below_all, IsPermutation-map, All-permutation}
use Rattle.records.specs.Words.{All-from_recursion, recursion_from_All, IsDistinct-IsPermutation, RowKey as Key}
use Rattle.records.specs.Words.{key_cmp, kind_number, key_cmp_total}
use lib.Dec.{T}
use Rattle.sqlite.specs.declared.types.Value.{Value}
use Rattle.sqlite.specs.declared.types.Value.TheVariants.{Text as Words}
use Rattle.sqlite.specs.Order.{Row}
use Rattle.sqlite.specs.Term.{Term, holds}
use Rattle.sqlite.specs.Query.{Output, output_cmp}
use Rattle.sqlite_value.specs.Order.{value_cmp, column}
use Rattle.sqlite_value.proofs.OrderLemmas.{value_cmp-Text, then-Equal}
use Rattle.records_sql.specs.Words.{Kind, Row as Fields, Kept, stored, entries_of, is_apart, are_apart, due_value}
use Rattle.records_sql.specs.Words.{due_in, entry_in}
use Rattle.records_sql.proofs.Texts.{entry_project, by_key}
use Rattle.records_sql.proofs.QueryLemmas.{passes, query, IsFound, shown_of, map_map}
use Rattle.records_sql.proofs.KeptLemmas.{due_back, and_left, and_right, apart_filter}
use Rattle.records_sql.proofs.ListLemmas.{both_T, first_T, second_T, Once, in_order_is}

pub fields_back : (v : Fields) → record v { due = due_in (due_value v.due) } ≡ v
fields_back v = ap (λ d. record v { due = d }) (due_back v.due)

not_true : (b : Bool) → not b ≡ true → b ≡ false
not_true true h = absurd cc
not_true false h = refl

-- ---- each key once

others : (e : Kept) (fs : List Kept) → list_all (is_apart e) fs ≡ true
    → AllByRecursion (λ y. eq_by_cmp key_cmp e.1.0 y ≡ false) (map (λ (f : Key × Fields). f.0) (entries_of fs))
others e [] k = tt
others e (f ∷ fs) k = (not_true _ (and_right _ _ (and_left _ _ k)), others e fs (and_right _ _ k))

pub once : (es : List Kept) → are_apart es ≡ true → Once (entries_of es)
unfolding IsDistinct
once [] h = tt
once (e ∷ es) h = (others e es (and_left _ _ h), once es (and_right _ _ h))

-- ---- rows that pass a test

module _ (takes : Key × Fields → Bool) where
  abbrev pub among : List Kept → List Kept
  among = filter (λ e. takes e.1)

  pub among_entries : (es : List Kept) → entries_of (among es) ≡ filter takes (entries_of es)
  among_entries [] = refl
  among_entries (e ∷ es) = elim (takes e.1) as (λ b. entries_of (cond b (e ∷ among es) (among es))
      ≡ cond b (e.1 ∷ filter takes (entries_of es)) (filter takes (entries_of es))) [
        | true ↦ ap (λ t. e.1 ∷ t) (among_entries es)
        | false ↦ among_entries es
      ]

  pub once_among : (es : List Kept) → are_apart es ≡ true → Once (filter takes (entries_of es))
  once_among es h = subst Once (among_entries es) (once (among es) (apart_filter (λ e. takes e.1) es h))

  module _ (tests : List Term) (params : Row)
      (tests_are : (e : Kept) → list_all (holds (params ∷ stored e ∷ [])) tests ≡ takes e.1) where
    pub rows_pass : (es : List Kept) → filter (λ r. list_all (holds (params ∷ r ∷ [])) tests) (map stored es)
        ≡ map stored (among es)
    rows_pass [] = refl
    rows_pass (e ∷ es) =
        let p = λ (r : Row). list_all (holds (params ∷ r ∷ [])) tests in
        ap (λ b. cond b (stored e ∷ filter p (map stored es)) (filter p (map stored es))) (tests_are e)
        ∙ elim (takes e.1) as (λ b. cond b (stored e ∷ filter p (map stored es)) (filter p (map stored es))
        ≡ map stored (cond b (e ∷ among es) (among es))) [
          | true ↦ ap (λ t. stored e ∷ t) (rows_pass es)
          | false ↦ rows_pass es
        ]

-- ---- in the order of keys

less_is : (o : Ordering) → T (is_lt o) → o ≡ Less
less_is Less h = refl
less_is Equal h = absurd h
less_is Greater h = absurd h

pub below : (x y : Key) → is_lt (key_cmp y x) ≡ false → eq_by_cmp key_cmp x y ≡ false → key_cmp x y ≡ Less
below x y up apart = go (key_cmp x y) (key_cmp y x) (key_cmp_total.antisymm y x) up apart
  where
    go : (r s : Ordering) → s ≡ ordering_reverse r → is_lt s ≡ false → is_eq r ≡ false → r ≡ Less
    go Less s e f g = refl
    go Equal s e f g = absurd cc
    go Greater s e f g = absurd (let z = ap is_lt e in cc)

-- what is below y is above what is below it
carry : (x y : Key) (es : List (Key × Fields)) → key_cmp x y ≡ Less → T (below_all key_cmp y es)
    → T (below_all key_cmp x es)
carry x y [] less h = tt
carry x y (e ∷ es) less h = both_T _ _ (subst (λ o. T (is_lt o))
    (sym (key_cmp_total.trans x y e.0 less (less_is _ (first_T _ _ h)))) tt) (carry x y es less (second_T _ _ h))

module _ (kind : Kind) (takes : Key × Fields → Bool) (of_kind : (x : Key × Fields) → takes x ≡ true → kind ≡ x.0.0)
    (tests : List Term) (params : Row) (tests_are : (e : Kept)
    → list_all (holds (params ∷ stored e ∷ [])) tests ≡ takes e.1) where
  abbrev show : Row → Output
  show = shown_of tests entry_project by_key params

  abbrev entry : Output → Key × Fields
  entry o = entry_in kind o.1

  abbrev order : Output → Output → Ordering
  order = output_cmp (query tests entry_project by_key params)

  shown_entries : (es : List Kept) → map (λ e. entry (show (stored e))) (among takes es) ≡ entries_of (among takes es)
  shown_entries [] = refl
  shown_entries (e ∷ es) = elim (takes e.1) as
      (λ b. takes e.1 ≡ b → map (λ e. entry (show (stored e))) (cond b (e ∷ among takes es) (among takes es))
      ≡ entries_of (cond b (e ∷ among takes es) (among takes es))) [
        | true ↦ λ h.
            let one : entry (show (stored e)) ≡ e.1 =
            ap (λ k. ((k, e.1.0.1), record e.1.1 { due = due_in (due_value e.1.1.due) })) (of_kind e.1 h)
            ∙ ap (λ v. (e.1.0, v)) (fields_back e.1.1) in
            λ i. one i ∷ shown_entries es i
        | false ↦ λ h. shown_entries es
      ] refl

  abbrev Ascends : List Output → Type 0
  Ascends [] = Unit {0}
  Ascends (x ∷ []) = Unit {0}
  Ascends (x ∷ y ∷ more) = (is_lt (order y x) ≡ false) × Ascends (y ∷ more)

  ascends : (os : List Output) → IsSorted order os → Ascends os
  ascends [] h = tt
  ascends (x ∷ []) h = tt
  ascends (x ∷ y ∷ more) h = (
    h 0 x (omega arith) (omega arith),
    ascends (y ∷ more) (λ k d low up.
        let later : suc k + 1 ≡ suc (k + 1) = omega arith in
        subst (λ n. is_lt (order (get_or (x ∷ y ∷ more) n d) (get_or (x ∷ y ∷ more) (suc k) d)) ≡ false) later
        (h (suc k) d (omega arith) (omega arith))),
  )

  -- it is sorted by the key that it shows
  abbrev IsKeyed : Output → Type 0
  IsKeyed o = o.0 ≡ Words (entry o).0.1 ∷ []

  all_keyed : (es : List Kept) → AllByRecursion IsKeyed (map show (map stored es))
  all_keyed [] = tt
  all_keyed (e ∷ es) = (refl, all_keyed es)

  compared : (x y : Output) → IsKeyed x → IsKeyed y → order y x ≡ key_cmp (entry y).0 (entry x).0
  compared x y kx ky =
      (λ i. ordering_then (value_cmp (first_in (ky i)) (first_in (kx i))) Equal)
      ∙ then-Equal _ ∙ value_cmp-Text (entry y).0.1 (entry x).0.1
      ∙ ap (λ o. ordering_then o (slice_cmp nat_cmp (entry y).0.1 (entry x).0.1))
      (sym (tied_itself nat_cmp_total (kind_number kind)))
    where
      first_in : Row → Value
      first_in r = column r 0

  -- entries that ascend, with each key once, rise
  rises : (os : List Output) → Ascends os → AllByRecursion IsKeyed os
      → IsDistinct (eq_by_cmp key_cmp) (map (λ o. (entry o).0) os) → T (is_sorted key_cmp (map entry os))
  unfolding IsDistinct
  rises [] a k d = tt
  rises (x ∷ []) a k d = tt
  rises (x ∷ y ∷ more) a k d =
      let rest = rises (y ∷ more) a.1 k.1 d.1 in
      let up : is_lt (key_cmp (entry y).0 (entry x).0) ≡ false = sym (ap is_lt (compared x y k.0 k.1.0)) ∙ a.0 in
      let less : key_cmp (entry x).0 (entry y).0 ≡ Less = below (entry x).0 (entry y).0 up d.0.0 in
      both_T _ _ (both_T _ _ (subst (λ o. T (is_lt o)) (sym less) tt)
      (carry (entry x).0 (entry y).0 (map entry more) less (first_T _ _ rest))) rest

  moved : (es : List Kept) (os : List Output) → IsPermutation (map show (map stored (among takes es))) os
      → IsPermutation (filter takes (entries_of es)) (map entry os)
  moved es os perm =
      subst (λ l. IsPermutation l (map entry os))
      (map_map entry show (map stored (among takes es)) ∙ map_map (λ r. entry (show r)) stored (among takes es)
      ∙ shown_entries es ∙ among_entries takes es)
      (IsPermutation-map entry _ os perm)

  in_order : (es : List Kept) (os : List Output) → are_apart es ≡ true → IsPermutation
      (map show (map stored (among takes es))) os → IsSorted order os → T (is_sorted key_cmp (map entry os))
  in_order es os h perm sorted =
      let keyed = recursion_from_All IsKeyed os
      (All-permutation IsKeyed _ os perm (All-from_recursion IsKeyed _ (all_keyed (among takes es)))) in
      let distinct : IsDistinct (eq_by_cmp key_cmp) (map (λ o. (entry o).0) os) =
      subst (IsDistinct (eq_by_cmp key_cmp)) (map_map (λ (e : Key × Fields). e.0) entry os)
      (IsDistinct-IsPermutation (eq_by_cmp key_cmp) (λ x y. (eq_by_cmp_equiv key_cmp_total).symm x y) _ _
      (IsPermutation-map (λ (e : Key × Fields). e.0) _ _ (moved es os perm)) (once_among takes es h)) in
      rises os (ascends os sorted) keyed distinct

  -- what is shown are the entries that pass the tests, in the order of their keys
  pub key_listed : (es : List Kept) (rows answer : List Row) → rows ≡ map stored es → are_apart es ≡ true
      → IsFound tests entry_project by_key params rows answer
      → map (entry_in kind) answer ≡ filter takes (entries (from_entries {R = key_cmp} (entries_of es)))
  key_listed es rows answer is apart f =
      let perm : IsPermutation (map show (map stored (among takes es))) f.ordered =
      subst (λ l. IsPermutation l f.ordered)
      (ap (λ rs. map show (filter (passes tests entry_project by_key params) rs)) is
      ∙ ap (map show) (rows_pass takes tests params tests_are es)) f.same in
      let list : map (entry_in kind) answer ≡ map entry f.ordered = ap (map (entry_in kind)) f.shown
      ∙ map_map (entry_in kind) (λ (o : Output). o.1) f.ordered in
      list ∙ in_order_is takes (entries_of es) (map entry f.ordered) (once es apart) (moved es f.ordered perm)
      (in_order es f.ordered apart perm f.sorted)
