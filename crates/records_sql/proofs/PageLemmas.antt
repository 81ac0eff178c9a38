-- What the statements by prefix that have another bound show.
use Rattle.std.proofs.Common.{◌≡◌, ◌&&◌, ◌∷◌, ◌≤◌, ℕ, Bool, true, false, cond, nat_eq, List, [], map, take, Option, suc}
use Rattle.records.specs.Words.{Some, zero, refl, sym, ap, ◌∙◌, arith, filter, list_all, starts_with, Ordering, Less}
use Rattle.records.specs.Words.{Equal, Greater, is_lt, is_le, is_ge, nat_cmp, ordering_then, tied_itself, nat_cmp_total}
use Rattle.records.specs.Words.{slice_cmp, entries, entries_sorted, is_sorted, below_all, and_parts, false≢true}
use Rattle.records.specs.Words.{nat_tests, take-map, Text, text_cmp, RowKey as Key, key_cmp, kind_number, is_of_kind}
use Rattle.records.specs.Words.{same_kind, rows_from, rows_upto}
use lib.Dec.{T}
use Rattle.sqlite.specs.declared.types.Value.TheVariants.{Text as Words}
use Rattle.sqlite.specs.Order.{Row}
use Rattle.sqlite.specs.Term.{holds}
use Rattle.sqlite.specs.Ops.{binary, is_true, from_truth}
use Rattle.sqlite_value.specs.Order.{value_cmp}
use Rattle.sqlite_value.proofs.OrderLemmas.{value_cmp-Text}
use Rattle.records_sql.specs.Words.{Row as Fields, IsAbove, IsLater, Kept, stored, are_apart, entry_in, from_params}
use Rattle.records_sql.specs.Words.{upto_params}
use Rattle.records_sql.proofs.Texts.{under_tests, upto_tests, entry_project, by_key}
use Rattle.records_sql.proofs.QueryLemmas.{IsFound}
use Rattle.records_sql.proofs.KeptLemmas.{and_left, map_of}
use Rattle.records_sql.proofs.ListLemmas.{first_T, second_T, sorted_filter}
use Rattle.records_sql.proofs.ReadLemmas.{is_true_is}
use Rattle.records_sql.proofs.ShownLemmas.{key_listed}
use Rattle.records_sql.proofs.UnderLemmas.{and_true, kind_test, not_below, may_be_under, under_tests_are, under_bound}
use Rattle.records_sql.proofs.UnderLemmas.{is_below, twice}

-- ---- what begins with a prefix comes before what is above it and does not

no_more : (p k l : Text) → is_ge (text_cmp k p) ≡ true → starts_with nat_eq k p ≡ false → text_cmp k l ≡ Less
    → starts_with nat_eq l p ≡ false
no_more [] k l above out up = absurd (false≢true (sym out))
no_more (x ∷ p) [] l above out up = absurd (false≢true above)
no_more (x ∷ p) (y ∷ k) [] above out up = absurd cc
no_more (x ∷ p) (y ∷ k) (z ∷ l) above out up =
    elim (nat_eq x z) as (λ b. nat_eq x z ≡ b → (b && starts_with nat_eq l p) ≡ false) [
      | true ↦ λ is.
          let x_is : x ≡ z = grind (arith, nat_tests) in
          let y_up : y ≤ z = at_most (nat_cmp y z) refl up in
          let y_down : x ≤ y = at_least (nat_cmp y x) refl above in
          let one : y ≡ x = omega (arith, x_is, y_up, y_down) in
          let tie : nat_cmp y x ≡ Equal = ap (λ n. nat_cmp n x) one ∙ tied_itself nat_cmp_total x in
          let tie_z : nat_cmp y z ≡ Equal = ap (nat_cmp y) (sym x_is) ∙ tie in
          let met : nat_eq x y ≡ true = grind (arith, nat_tests) in
          no_more p k l (sym (ap (λ o. is_ge (ordering_then o (slice_cmp nat_cmp k p))) tie) ∙ above)
          (sym (ap (λ b. b && starts_with nat_eq k p) met) ∙ out)
          (sym (ap (λ o. ordering_then o (slice_cmp nat_cmp k l)) tie_z) ∙ up)
      | false ↦ λ _. refl
    ] refl
  where
    at_most : (o : Ordering) → nat_cmp y z ≡ o → ordering_then o (text_cmp k l) ≡ Less → y ≤ z
    at_most Less is h = grind (arith, is)
    at_most Equal is h = grind (arith, is)
    at_most Greater is h = absurd cc

    at_least : (o : Ordering) → nat_cmp y x ≡ o → is_ge (ordering_then o (text_cmp k p)) ≡ true → x ≤ y
    at_least Less is h = absurd cc
    at_least Equal is h = grind (arith, is)
    at_least Greater is h = grind (arith, is)

module _ (q : Key) where
  abbrev begins : Key × Fields → Bool
  begins e = starts_with nat_eq e.0.1 q.1

  abbrev Low : Key × Fields → Type 0
  Low e = (is_of_kind q.0 e.0 ≡ true) × (is_ge (text_cmp e.0.1 q.1) ≡ true)

  abbrev AllLow : List (Key × Fields) → Type 0
  AllLow [] = Unit {0}
  AllLow (e ∷ es) = Low e × AllLow es

  less_is : (o : Ordering) → T (is_lt o) → o ≡ Less
  less_is Less h = refl
  less_is Equal h = absurd h
  less_is Greater h = absurd h

  -- keys of the kind are in the order of their texts
  by_text : (x y : Key) → is_of_kind q.0 x ≡ true → is_of_kind q.0 y ≡ true → key_cmp x y ≡ text_cmp x.1 y.1
  by_text x y is_x is_y =
      (λ i. key_cmp (same_kind x.0 q.0 is_x i, x.1) (same_kind y.0 q.0 is_y i, y.1))
      ∙ ap (λ o. ordering_then o (text_cmp x.1 y.1)) (tied_itself nat_cmp_total (kind_number q.0))

  none_begin : (e : Key × Fields) (es : List (Key × Fields)) → Low e → AllLow es → begins e ≡ false
      → T (below_all key_cmp e.0 es) → filter begins es ≡ []
  none_begin e [] low all out up = refl
  none_begin e (f ∷ es) low all out up =
      let next : text_cmp e.0.1 f.0.1 ≡ Less = sym (by_text e.0 f.0 low.0 all.0.0) ∙ less_is _ (first_T _ _ up) in
      let gone : begins f ≡ false = no_more q.1 e.0.1 f.0.1 low.1 out next in
      ap (λ b. cond b (f ∷ filter begins es) (filter begins es)) gone ∙ none_begin e es low all.1 out (second_T _ _ up)

  none_taken : (n : ℕ) (es : List (Key × Fields)) → filter begins es ≡ [] → filter begins (take n es) ≡ []
  none_taken zero es none = refl
  none_taken (suc n) [] none = refl
  none_taken (suc n) (e ∷ es) none =
      elim (begins e) as (λ b. cond b (e ∷ filter begins es) (filter begins es) ≡ []
      → cond b (e ∷ filter begins (take n es)) (filter begins (take n es)) ≡ []) [
        | true ↦ λ h. absurd (let z = h in cc)
        | false ↦ λ h. none_taken n es h
      ] none

  -- so the first that begin with it are among the first
  first_begin : (n : ℕ) (es : List (Key × Fields)) → AllLow es → T (is_sorted key_cmp es)
      → filter begins (take n es) ≡ take n (filter begins es)
  first_begin zero es low sorted = refl
  first_begin (suc n) [] low sorted = refl
  first_begin (suc n) (e ∷ es) low sorted =
      elim (begins e) as (λ b. begins e ≡ b → cond b (e ∷ filter begins (take n es)) (filter begins (take n es))
      ≡ take (suc n) (cond b (e ∷ filter begins es) (filter begins es))) [
        | true ↦ λ _. ap (λ l. e ∷ l) (first_begin n es low.1 (second_T _ _ sorted))
        | false ↦ λ out.
            let none = none_begin e es low.0 low.1 out (first_T _ _ sorted) in
            none_taken n es none ∙ sym (ap (take (suc n)) none)
      ] refl

  -- ---- a page of rows

  module _ (from first : Text) (later : IsLater q.1 from first) (bound : Option Text) (above : IsAbove q.1 bound) where
    abbrev may_be : Key × Fields → Bool
    may_be = may_be_under (q.0, first) bound

    all_low : (es : List (Key × Fields)) → AllLow (filter may_be es)
    all_low [] = tt
    all_low (e ∷ es) = elim (may_be e) as
        (λ b. may_be e ≡ b → AllLow (cond b (e ∷ filter may_be es) (filter may_be es))) [
          | true ↦ λ is.
              let parts = and_parts _ _ is in
              let low = (and_parts _ _ parts.1).0 in
              ((parts.0, (and_parts _ _ (sym (later e.0.1) ∙ low)).0), all_low es)
          | false ↦ λ _. all_low es
        ] refl

    abbrev is_under : Key × Fields → Bool
    is_under e = is_of_kind q.0 e.0 && starts_with nat_eq e.0.1 q.1

    abbrev not_before : Key × Fields → Bool
    not_before e = is_ge (text_cmp e.0.1 from)

    abbrev both : Key × Fields → Bool
    both e = is_under e && not_before e

    one_way : (e : Key × Fields) → (may_be e && begins e) ≡ both e
    one_way e = elim (starts_with nat_eq e.0.1 q.1) as
        (λ b. starts_with nat_eq e.0.1 q.1 ≡ b
        → (may_be e && b) ≡ ((is_of_kind q.0 e.0 && b) && is_ge (text_cmp e.0.1 from))) [
          | true ↦ λ h. inside h (is_of_kind q.0 e.0)
          | false ↦ λ h. outside (may_be e) (is_of_kind q.0 e.0)
        ] refl
      where
        outside : (a b : Bool) → (a && false) ≡ ((b && false) && is_ge (text_cmp e.0.1 from))
        outside true true = refl
        outside true false = refl
        outside false true = refl
        outside false false = refl

        low : starts_with nat_eq e.0.1 q.1 ≡ true → is_ge (text_cmp e.0.1 first) ≡ is_ge (text_cmp e.0.1 from)
        low h = later e.0.1 ∙ ap (λ b. b && is_ge (text_cmp e.0.1 from)) (not_below e.0.1 q.1 h)

        inside : starts_with nat_eq e.0.1 q.1 ≡ true → (k : Bool)
            → ((k && (is_ge (text_cmp e.0.1 first) && is_below bound e.0.1)) && true)
            ≡ ((k && true) && is_ge (text_cmp e.0.1 from))
        inside h false = refl
        inside h true = and_true _ ∙ (λ i. low h i && under_bound q bound bound above e.0.1 h i) ∙ and_true _

    pub from_found : (count : ℕ) (es : List Kept) (rows whole answer : List Row) → rows ≡ map stored es
        → are_apart es ≡ true
        → IsFound under_tests entry_project by_key (from_params (q.0, first) bound count) rows whole
        → answer ≡ take count whole
        → filter (λ e. starts_with nat_eq e.0.1 q.1) (map (entry_in q.0) answer)
        ≡ take count (rows_from (map_of es) q.0 q.1 from)
    from_found count es rows whole answer is apart f taken =
        let all = entries (map_of es) in
        let listed : map (entry_in q.0) whole ≡ filter may_be all =
        key_listed q.0 may_be (λ x h. sym (same_kind x.0.0 q.0 (and_left _ _ h))) under_tests
        (from_params (q.0, first) bound count) tests_are es rows whole is apart f in
        ap (λ rs. filter begins (map (entry_in q.0) rs)) taken
        ∙ ap (filter begins) (sym (take-map (entry_in q.0) count whole) ∙ ap (take count) listed)
        ∙ first_begin count (filter may_be all) (all_low all) (sorted_filter may_be all (entries_sorted (map_of es)))
        ∙ ap (take count) (twice may_be begins both all one_way ∙ sym (twice is_under not_before both all (λ e. refl)))
      where
        tests_are : (e : Kept) → list_all (holds (from_params (q.0, first) bound count ∷ stored e ∷ [])) under_tests
            ≡ may_be e.1
        tests_are e = under_tests_are (q.0, first) bound e

  -- ---- the rows up to another key

  module _ (last : Text) where
    abbrev may_be_upto : Key × Fields → Bool
    may_be_upto e = is_of_kind q.0 e.0 && (is_ge (text_cmp e.0.1 q.1) && is_le (text_cmp e.0.1 last))

    upto_tests_are : (e : Kept) → list_all (holds (upto_params q last ∷ stored e ∷ [])) upto_tests ≡ may_be_upto e.1
    unfolding binary
    upto_tests_are e =
        ap (λ x. x && (is_true (from_truth (Some (is_ge (value_cmp (Words e.1.0.1) (Words q.1)))))
        && (is_true (from_truth (Some (is_le (value_cmp (Words e.1.0.1) (Words last))))) && true)))
        (kind_test q.0 e.1.0.0)
        ∙ ap (λ x. is_of_kind q.0 e.1.0
        && (x && (is_true (from_truth (Some (is_le (value_cmp (Words e.1.0.1) (Words last))))) && true)))
        (is_true_is _ ∙ ap is_ge (value_cmp-Text e.1.0.1 q.1))
        ∙ ap (λ x. is_of_kind q.0 e.1.0 && (is_ge (text_cmp e.1.0.1 q.1) && x))
        (and_true _ ∙ is_true_is _ ∙ ap is_le (value_cmp-Text e.1.0.1 last))

    abbrev under_it : Key × Fields → Bool
    under_it e = is_of_kind q.0 e.0 && starts_with nat_eq e.0.1 q.1

    abbrev not_after : Key × Fields → Bool
    not_after e = is_le (text_cmp e.0.1 last)

    abbrev both_upto : Key × Fields → Bool
    both_upto e = under_it e && not_after e

    upto_way : (e : Key × Fields) → (may_be_upto e && begins e) ≡ both_upto e
    upto_way e = elim (starts_with nat_eq e.0.1 q.1) as
        (λ b. starts_with nat_eq e.0.1 q.1 ≡ b → (may_be_upto e && b)
        ≡ ((is_of_kind q.0 e.0 && b) && is_le (text_cmp e.0.1 last))) [
          | true ↦ λ h. inside h (is_of_kind q.0 e.0)
          | false ↦ λ h. outside (may_be_upto e) (is_of_kind q.0 e.0)
        ] refl
      where
        outside : (a b : Bool) → (a && false) ≡ ((b && false) && is_le (text_cmp e.0.1 last))
        outside true true = refl
        outside true false = refl
        outside false true = refl
        outside false false = refl

        inside : starts_with nat_eq e.0.1 q.1 ≡ true → (k : Bool)
            → ((k && (is_ge (text_cmp e.0.1 q.1) && is_le (text_cmp e.0.1 last))) && true)
            ≡ ((k && true) && is_le (text_cmp e.0.1 last))
        inside h false = refl
        inside h true = and_true _ ∙ ap (λ b. b && is_le (text_cmp e.0.1 last)) (not_below e.0.1 q.1 h)

    pub upto_found : (es : List Kept) (rows answer : List Row) → rows ≡ map stored es → are_apart es ≡ true
        → IsFound upto_tests entry_project by_key (upto_params q last) rows answer
        → filter (λ e. starts_with nat_eq e.0.1 q.1) (map (entry_in q.0) answer) ≡ rows_upto (map_of es) q.0 q.1 last
    upto_found es rows answer is apart f =
        ap (filter begins) (key_listed q.0 may_be_upto (λ x h. sym (same_kind x.0.0 q.0 (and_left _ _ h))) upto_tests
        (upto_params q last) upto_tests_are es rows answer is apart f)
        ∙ twice may_be_upto begins both_upto (entries (map_of es)) upto_way
        ∙ sym (twice under_it not_after both_upto (entries (map_of es)) (λ e. refl))
