-- Rows that are due have one order.
use Rattle.std.proofs.Common.{◌≡◌, ◌∷◌, ◌&&◌, ℕ, suc, List, [], Bool, true, false, T, map, unwrap_or, IsPermutation, ap}
use Rattle.records.specs.Words.{IsSorted, Ordering, Less, Equal, Greater, eq_by_cmp, is_eq, is_lt, is_gt, nat_cmp}
use Rattle.records.specs.Words.{ordering_then, ordering_reverse, IsTotalOrder, nat_cmp_total, tied_itself}
use Rattle.records.specs.Words.{eq_by_cmp_equiv, IsAntisymmetric, find, is_sorted, below_all, same_entries}
use Rattle.records.specs.Words.{AllByRecursion, IsDistinct, refl, sym, ◌∙◌, subst, arith, inl, inr, false≢true}
use Rattle.records.specs.Words.{on_total, then_total, upto, Contains-permutation, IsPermutation-map, IsPermutation-sym}
use Rattle.records.specs.Words.{IsPermutation-trans, IsDistinct-IsPermutation, exact_pairs, exact_unsigned, none-some}
use Rattle.records.specs.Words.{found_or_not, Row, is_due, rows_due, due_cmp, AreDue, DueRowsHaveOneOrder, found_in}
use Rattle.records.specs.Words.{in_found, passing_once, RowKey, key_cmp, key_cmp_total, key_cmp_exact}
use Rattle.records.proofs.DueLemmas.{due_total}

-- ---- entries by when they are due, and then by kind and key

abbrev Place : Type 0
Place = ℕ × RowKey

abbrev place_cmp : Place → Place → Ordering
place_cmp a b = ordering_then (nat_cmp a.0 b.0) (key_cmp a.1 b.1)

abbrev placed : RowKey × Row → Place × Row
placed e = ((unwrap_or e.1.due 0, e.0), e.1)

abbrev unplaced : Place × Row → RowKey × Row
unplaced e = (e.0.1, e.1)

place_total : IsTotalOrder place_cmp
place_total = then_total (on_total (λ (p : Place). p.0) nat_cmp_total) (on_total (λ (p : Place). p.1) key_cmp_total)

place_exact : IsAntisymmetric place_cmp
place_exact = exact_pairs nat_cmp key_cmp exact_unsigned key_cmp_exact

back : (es : List (RowKey × Row)) → map unplaced (map placed es) ≡ es
back [] = refl
back (e ∷ es) = ap (λ l. e ∷ l) (back es)

-- ---- a list that is sorted, and has each key once, rises

abbrev AtMost : RowKey × Row → RowKey × Row → Type 0
AtMost a b = is_gt (due_cmp a b) ≡ false

Rises : List (RowKey × Row) → Type 0
Rises [] = Unit {0}
Rises (e ∷ es) = AllByRecursion (AtMost e) es × Rises es

turned : (o : Ordering) → is_lt o ≡ false → is_gt (ordering_reverse o) ≡ false
turned Less h = h
turned Equal h = refl
turned Greater h = refl

all_weaker : (P Q : RowKey × Row → Type 0) → ((e : RowKey × Row) → P e → Q e) → (es : List (RowKey × Row))
    → AllByRecursion P es → AllByRecursion Q es
all_weaker P Q f [] h = tt
all_weaker P Q f (e ∷ es) h = (f e h.0, all_weaker P Q f es h.1)

rises : (es : List (RowKey × Row)) → IsSorted due_cmp es → Rises es
unfolding Rises
rises [] sorted = tt
rises (e ∷ es) sorted =
    let later : IsSorted due_cmp es = λ k d p q. rw Rattle.std.proofs.Common.add-one
    (rw Rattle.std.proofs.Common.add-one at (sorted (suc k) d (omega arith) (omega arith))) in
    let up = rises es later in
    (first es sorted up, up)
  where
    first : (fs : List (RowKey × Row)) → IsSorted due_cmp (e ∷ fs) → Rises fs → AllByRecursion (AtMost e) fs
    first [] sorted up = tt
    first (f ∷ fs) sorted up =
        let next : AtMost e f = ap is_gt (due_total.antisymm e f) ∙ turned _ (sorted 0 e (omega arith) (omega arith)) in
        (next, all_weaker (AtMost f) (AtMost e) (λ z. upto due_total e f z next) fs up.0)

-- whoever is at most another, and has another key, is below it
below : (e f : RowKey × Row) (o : Ordering) → due_cmp e f ≡ o → is_gt o ≡ false → eq_by_cmp key_cmp e.0 f.0 ≡ false
    → T (is_lt o)
below e f Less is most apart = tt
below e f Equal is most apart =
    let keys : e.0 ≡ f.0 = ap (λ (p : Place). p.1) (place_exact (placed e).0 (placed f).0 is) in
    absurd (false≢true (sym apart ∙ ap is_eq (ap (key_cmp e.0) (sym keys) ∙ tied_itself key_cmp_total e.0)))
below e f Greater is most apart = absurd (false≢true (sym most))

all_below : (e : RowKey × Row) (es : List (RowKey × Row)) → AllByRecursion (AtMost e) es
    → AllByRecursion (λ y. eq_by_cmp key_cmp e.0 y ≡ false) (map (λ e. e.0) es)
    → T (below_all place_cmp (placed e).0 (map placed es))
all_below e [] most apart = tt
all_below e (f ∷ fs) most apart = both _ _ (below e f (due_cmp e f) refl most.0 apart.0) (all_below e fs most.1 apart.1)
  where
    both : (a b : Bool) → T a → T b → T (a && b)
    both true b s t = t
    both false b s t = absurd s

in_order : (es : List (RowKey × Row)) → Rises es → IsDistinct (eq_by_cmp key_cmp) (map (λ e. e.0) es)
    → T (is_sorted place_cmp (map placed es))
unfolding Rises IsDistinct
in_order [] up once = tt
in_order (e ∷ es) up once = both _ _ (all_below e es up.0 once.0) (in_order es up.1 once.1)
  where
    both : (a b : Bool) → T a → T b → T (a && b)
    both true b s t = t
    both false b s t = absurd s

-- ---- two such lists of the same rows are one

module _ (xs ys : List (Place × Row)) (x_sorted : T (is_sorted place_cmp xs))
    (y_sorted : T (is_sorted place_cmp ys)) where
  finds : IsPermutation xs ys → (q : Place) → find place_cmp q xs ≡ find place_cmp q ys
  finds same q = elim (found_or_not (find place_cmp q xs)) [
    | inr x ↦ x.1 ∙ sym (in_found place_cmp place_total ys y_sorted (q, x.0)
        (Contains-permutation xs ys (q, x.0) same (found_in place_cmp place_exact q x.0 xs x.1)))
    | inl none ↦ elim (found_or_not (find place_cmp q ys)) [
      | inl too ↦ none ∙ sym too
      | inr y ↦ absurd (none-some _ (sym none ∙ in_found place_cmp place_total xs x_sorted (q, y.0)
          (Contains-permutation ys xs (q, y.0) (IsPermutation-sym xs ys same)
          (found_in place_cmp place_exact q y.0 ys y.1))))
    ]
  ]

  one : IsPermutation xs ys → xs ≡ ys
  one same = same_entries place_cmp place_total place_exact xs ys x_sorted y_sorted (finds same)

pub due_in_one_order : DueRowsHaveOneOrder
due_in_one_order rows moment xs ys x y =
    sym (back xs)
    ∙ ap (map unplaced) (one (map placed xs) (map placed ys) (sorted xs x) (sorted ys y)
    (IsPermutation-map placed xs ys
    (IsPermutation-trans xs (rows_due rows moment) ys (IsPermutation-sym (rows_due rows moment) xs x.whole) y.whole)))
    ∙ back ys
  where
    sorted : (es : List (RowKey × Row)) → AreDue rows moment es → T (is_sorted place_cmp (map placed es))
    sorted es due =
        in_order es (rises es due.sorted)
        (IsDistinct-IsPermutation (eq_by_cmp key_cmp) (eq_by_cmp_equiv key_cmp_total).symm
        (map (λ e. e.0) (rows_due rows moment)) (map (λ e. e.0) es)
        (IsPermutation-map (λ e. e.0) (rows_due rows moment) es due.whole)
        (passing_once rows (λ e. is_due moment e.1.due)))
