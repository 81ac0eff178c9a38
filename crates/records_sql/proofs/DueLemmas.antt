-- What the statement by due shows.
use Rattle.std.proofs.Common.{◌≡◌, ◌+◌, ◌<◌, ◌&&◌, ◌∷◌, ℕ, zero, suc, pos, Bool, true, false, cond, nat_le, List, []}
use Rattle.records.specs.Words.{map, length, get_or, Option, Some, None, refl, sym, ap, subst, ◌∙◌, arith, filter}
use Rattle.records.specs.Words.{IsPermutation, IsSorted, unwrap_or, list_all, AllByRecursion, Ordering, Equal, is_lt}
use Rattle.records.specs.Words.{is_le, is_ge, nat_cmp, int_cmp, ordering_then, entries, IsPermutation-map}
use Rattle.records.specs.Words.{IsPermutation-trans, IsPermutation-sym, All-permutation, All-from_recursion}
use Rattle.records.specs.Words.{recursion_from_All, nat_tests, text_cmp, RowKey as Key, kind_number, kind_of-number}
use Rattle.records.specs.Words.{is_due, due_cmp, AreDue}
use Rattle.sqlite.specs.declared.types.Value.TheVariants.{Int, Text as Words}
use Rattle.sqlite.specs.Order.{Row}
use Rattle.sqlite.specs.Term.{holds}
use Rattle.sqlite.specs.Ops.{binary, is_true, from_truth}
use Rattle.sqlite.specs.Query.{Output, output_cmp}
use Rattle.sqlite_value.specs.Order.{value_cmp, column}
use Rattle.sqlite_value.proofs.OrderLemmas.{value_cmp-Int, value_cmp-Text, then-Equal}
use Rattle.sqlite_trees.proofs.ListLemmas.{IsPermutation-filter}
use Rattle.records_sql.specs.Words.{Row as Fields, Kept, stored, entries_of, are_apart, due_value, due_in, whole_entry}
use Rattle.records_sql.specs.Words.{due_params}
use Rattle.records_sql.proofs.Texts.{due_tests, whole_project, by_due}
use Rattle.records_sql.proofs.QueryLemmas.{passes, query, IsFound, shown_of, map_map}
use Rattle.records_sql.proofs.KeptLemmas.{map_of}
use Rattle.records_sql.proofs.ListLemmas.{entries_permute}
use Rattle.records_sql.proofs.ReadLemmas.{is_true_is}
use Rattle.records_sql.proofs.ShownLemmas.{fields_back, among, among_entries, rows_pass, once}

pub pos_cmp : (m n : ℕ) → int_cmp (pos m) (pos n) ≡ nat_cmp m n
pos_cmp m n = grind (arith, nat_tests)

ge_zero : (m : ℕ) → is_ge (nat_cmp m 0) ≡ true
ge_zero m = grind (arith, nat_tests)

le_is : (m n : ℕ) → is_le (nat_cmp m n) ≡ nat_le m n
le_is m n = grind (arith, nat_tests)

-- the row of an entry that is due then
abbrev row_due : Kept → Option ℕ → Row
row_due e d = stored (e.0, (e.1.0, record e.1.1 { due = d }))

-- a row passes the two tests exactly if it is due
due_test : (moment : ℕ) (e : Kept) (d : Option ℕ)
    → list_all (holds (due_params moment ∷ row_due e d ∷ [])) due_tests ≡ is_due moment d
unfolding binary
due_test moment e None = refl
due_test moment e (Some m) =
    ap (λ x. x && (is_true (from_truth (Some (is_le (value_cmp (Int (pos m)) (Int (pos moment)))))) && true))
    (is_true_is _ ∙ ap is_ge (value_cmp-Int (pos m) (pos 0) ∙ pos_cmp m 0) ∙ ge_zero m)
    ∙ and_true _ ∙ is_true_is _ ∙ ap is_le (value_cmp-Int (pos m) (pos moment) ∙ pos_cmp m moment) ∙ le_is m moment
  where
    and_true : (b : Bool) → (b && true) ≡ b
    and_true true = refl
    and_true false = refl

module _ (moment : ℕ) where
  abbrev takes : Key × Fields → Bool
  takes e = is_due moment e.1.due

  tests_are : (e : Kept) → list_all (holds (due_params moment ∷ stored e ∷ [])) due_tests ≡ takes e.1
  tests_are e = due_test moment e e.1.1.due

  abbrev show : Row → Output
  show = shown_of due_tests whole_project by_due (due_params moment)

  abbrev entry : Output → Key × Fields
  entry o = whole_entry o.1

  abbrev order : Output → Output → Ordering
  order = output_cmp (query due_tests whole_project by_due (due_params moment))

  shown_entries : (es : List Kept) → map (λ e. entry (show (stored e))) es ≡ entries_of es
  shown_entries [] = refl
  shown_entries (e ∷ es) =
      let one : entry (show (stored e)) ≡ e.1 =
      ap (λ k. ((k, e.1.0.1), record e.1.1 { due = due_in (due_value e.1.1.due) })) (kind_of-number e.1.0.0)
      ∙ ap (λ v. (e.1.0, v)) (fields_back e.1.1) in
      λ i. one i ∷ shown_entries es i

  -- it is sorted by what it shows
  abbrev IsKeyed : Output → Type 0
  IsKeyed o = o.0 ≡ Int (pos (unwrap_or (entry o).1.due 0)) ∷ Int (pos (kind_number (entry o).0.0)) ∷ Words
      (entry o).0.1 ∷ []

  one_keyed : (e : Kept) (d : Option ℕ) → is_due moment d ≡ true → IsKeyed (show (row_due e d))
  one_keyed e None h = absurd cc
  one_keyed e (Some m) h = λ i. Int (pos m) ∷ Int
      (pos (kind_number (sym (kind_of-number e.1.0.0) i))) ∷ Words e.1.0.1 ∷ []

  all_keyed : (es : List Kept) → AllByRecursion IsKeyed (map show (map stored (among takes es)))
  all_keyed [] = tt
  all_keyed (e ∷ es) = elim (takes e.1) as (λ b. takes e.1 ≡ b
      → AllByRecursion IsKeyed (map show (map stored (cond b (e ∷ among takes es) (among takes es))))) [
        | true ↦ λ h. (one_keyed e e.1.1.due h, all_keyed es)
        | false ↦ λ h. all_keyed es
      ] refl

  compared : (x y : Output) → IsKeyed x → IsKeyed y → order y x ≡ due_cmp (entry y) (entry x)
  compared x y kx ky =
      (λ i. order_of (ky i) (kx i))
      ∙ (λ i. ordering_then (value_cmp-Int (pos (unwrap_or (entry y).1.due 0)) (pos (unwrap_or (entry x).1.due 0)) i)
      (ordering_then (value_cmp-Int (pos (kind_number (entry y).0.0)) (pos (kind_number (entry x).0.0)) i)
      (then-Equal (value_cmp-Text (entry y).0.1 (entry x).0.1 i) i)))
      ∙ (λ i. ordering_then (pos_cmp (unwrap_or (entry y).1.due 0) (unwrap_or (entry x).1.due 0) i)
      (ordering_then (pos_cmp (kind_number (entry y).0.0) (kind_number (entry x).0.0) i)
      (key_cmp_text (entry y).0.1 (entry x).0.1)))
    where
      order_of : Row → Row → Ordering
      order_of a b = ordering_then (value_cmp (column a 0) (column b 0))
          (ordering_then (value_cmp (column a 1) (column b 1))
          (ordering_then (value_cmp (column a 2) (column b 2)) Equal))

      key_cmp_text : List ℕ → List ℕ → Ordering
      key_cmp_text a b = text_cmp a b

-- ---- a sorted list by its neighbors

abbrev Ascends : {X : Type 0} → (X → X → Ordering) → List X → Type 0
Ascends c [] = Unit {0}
Ascends c (x ∷ []) = Unit {0}
Ascends c (x ∷ y ∷ more) = (is_lt (c y x) ≡ false) × Ascends c (y ∷ more)

ascends : {X : Type 0} (c : X → X → Ordering) (xs : List X) → IsSorted c xs → Ascends c xs
ascends c [] h = tt
ascends c (x ∷ []) h = tt
ascends c (x ∷ y ∷ more) h = (
  h 0 x (omega arith) (omega arith),
  ascends c (y ∷ more) (λ k d low up.
      let later : suc k + 1 ≡ suc (k + 1) = omega arith in
      subst (λ n. is_lt (c (get_or (x ∷ y ∷ more) n d) (get_or (x ∷ y ∷ more) (suc k) d)) ≡ false) later
      (h (suc k) d (omega arith) (omega arith))),
)

sorted_at : {X : Type 0} (c : X → X → Ordering) (xs : List X) → Ascends c xs → (k : ℕ) (d : X) → suc k < length xs
    → is_lt (c (get_or xs (suc k) d) (get_or xs k d)) ≡ false
sorted_at c [] a k d up = absurd (omega arith)
sorted_at c (x ∷ []) a k d up = absurd (omega arith)
sorted_at c (x ∷ y ∷ more) a zero d up = a.0
sorted_at c (x ∷ y ∷ more) a (suc k) d up = sorted_at c (y ∷ more) a.1 k d (omega arith)

sorted_from : {X : Type 0} (c : X → X → Ordering) (xs : List X) → Ascends c xs → IsSorted c xs
sorted_from c xs a k d low up =
    let next : k + 1 ≡ suc k = omega arith in
    subst (λ n. is_lt (c (get_or xs n d) (get_or xs k d)) ≡ false) (sym next) (sorted_at c xs a k d (omega arith))

module _ (moment : ℕ) where
  carried : (os : List Output) → AllByRecursion (IsKeyed moment) os → Ascends (order moment) os
      → Ascends due_cmp (map (entry moment) os)
  carried [] k a = tt
  carried (x ∷ []) k a = tt
  carried (x ∷ y ∷ more) k a = (sym (ap is_lt (compared moment x y k.0 k.1.0)) ∙ a.0, carried (y ∷ more) k.1 a.1)

  -- what is shown are the rows that are due, in order
  pub due_found : (es : List Kept) (rows answer : List Row) → rows ≡ map stored es → are_apart es ≡ true
      → IsFound due_tests whole_project by_due (due_params moment) rows answer
      → AreDue (map_of es) moment (map whole_entry answer)
  due_found es rows answer is apart f =
      let t = takes moment in
      let perm : IsPermutation (map (show moment) (map stored (among t es))) f.ordered =
      subst (λ l. IsPermutation l f.ordered)
      (ap (λ rs. map (show moment) (filter (passes due_tests whole_project by_due (due_params moment)) rs)) is
      ∙ ap (map (show moment)) (rows_pass t due_tests (due_params moment) (tests_are moment) es)) f.same in
      let moved : IsPermutation (filter t (entries_of es)) (map (entry moment) f.ordered) =
      subst (λ l. IsPermutation l (map (entry moment) f.ordered))
      (map_map (entry moment) (show moment) (map stored (among t es)) ∙ map_map (λ r. entry moment (show moment r))
      stored (among t es) ∙ shown_entries moment (among t es) ∙ among_entries t es)
      (IsPermutation-map (entry moment) _ f.ordered perm) in
      let keyed = recursion_from_All (IsKeyed moment) f.ordered
      (All-permutation (IsKeyed moment) _ f.ordered perm
      (All-from_recursion (IsKeyed moment) _ (all_keyed moment es))) in
      let list : map whole_entry answer ≡ map (entry moment) f.ordered = ap (map whole_entry) f.shown
      ∙ map_map whole_entry (λ (o : Output). o.1) f.ordered in
      subst (AreDue (map_of es) moment) (sym list) (record {
        whole = IsPermutation-trans _ _ _
            (IsPermutation-sym _ _
            (IsPermutation-filter t (entries_of es) (entries (map_of es))
            (entries_permute (entries_of es) (once es apart)))) moved;
        sorted = sorted_from due_cmp (map (entry moment) f.ordered)
            (carried f.ordered keyed (ascends (order moment) f.ordered f.sorted));
      })
