-- What the statements by prefix and by owner show.
use Rattle.std.proofs.Common.{◌≡◌, ◌&&◌, ◌==◌, ◌∷◌, ℕ, pos, Bool, true, false, cond, nat_eq, List, [], map, Option, sym}
use Rattle.records.specs.Words.{Some, None, refl, ap, subst, ◌∙◌, arith, filter, list_all, starts_with, Equal, is_eq}
use Rattle.records.specs.Words.{is_lt, is_ge, nat_cmp, ordering_then, tied_itself, nat_cmp_total, slice_cmp, entries}
use Rattle.records.specs.Words.{nat_cmp-IsAntisymmetric, nat_tests, Text, text_cmp, same, same-text_cmp, RowKey as Key}
use Rattle.records.specs.Words.{kind_number, is_of_kind, same_kind, rows_under, rows_owned}
use Rattle.sqlite.specs.declared.types.Value.TheVariants.{Int, Text as Words, Blob as Bytes}
use Rattle.sqlite.specs.Order.{Row}
use Rattle.sqlite.specs.Term.{Term, holds, col, op2}
use Rattle.sqlite.specs.Collation.TheVariants.{Binary}
use Rattle.sqlite_sql.specs.declared.ops.CompareOp.TheVariants.{Lt}
use Rattle.sqlite_sql.specs.declared.ops.BinaryOp.TheVariants.{Compare}
use Rattle.sqlite.specs.Ops.{binary, is_true, from_truth}
use Rattle.sqlite_value.specs.Order.{value_cmp}
use Rattle.sqlite_value.proofs.OrderLemmas.{value_cmp-Int, value_cmp-Text, value_cmp-apart}
use Rattle.records_sql.specs.Words.{Kind, Row as Fields, IsAbove, Kept, stored, are_apart, entry_in, key_params}
use Rattle.records_sql.specs.Words.{under_params}
use Rattle.records_sql.proofs.Texts.{under_tests, owner_tests, entry_project, by_key}
use Rattle.records_sql.proofs.QueryLemmas.{IsFound}
use Rattle.records_sql.proofs.KeptLemmas.{and_left, and_right, map_of}
use Rattle.records_sql.proofs.ReadLemmas.{same_tests, equal_is, is_true_is, int_nat}
use Rattle.records_sql.proofs.ShownLemmas.{key_listed}

pub and_true : (b : Bool) → (b && true) ≡ b
and_true true = refl
and_true false = refl

eq_number : (m n : ℕ) → is_eq (nat_cmp m n) ≡ (m == n)
eq_number m n = same_tests _ _ (λ h. let same : m ≡ n = nat_cmp-IsAntisymmetric m n (equal_is _ h) in
    grind (arith, nat_tests)) (λ h. let same : m ≡ n = grind (arith, nat_tests) in
    ap is_eq (subst (λ k. nat_cmp m k ≡ Equal) same (tied_itself nat_cmp_total m)))

-- the test of the kind
pub kind_test : (kind : Kind) (k : Kind)
    → is_true (from_truth (Some (is_eq (value_cmp (Int (pos (kind_number k))) (Int (pos (kind_number kind)))))))
    ≡ (kind_number k == kind_number kind)
kind_test kind k =
    is_true_is _ ∙ ap is_eq (value_cmp-Int (pos (kind_number k)) (pos (kind_number kind)))
    ∙ int_nat (kind_number k) (kind_number kind)
    ∙ eq_number (kind_number k) (kind_number kind)

-- ---- by owner

abbrev owns : Key → Key × Fields → Bool
owns q e = is_of_kind q.0 e.0 && same e.1.owner q.1

owner_tests_are : (q : Key) (e : Kept) → list_all (holds (key_params q ∷ stored e ∷ [])) owner_tests ≡ owns q e.1
unfolding binary
owner_tests_are q e =
    ap (λ x. x && (is_true (from_truth (Some (is_eq (value_cmp (Words e.1.1.owner) (Words q.1))))) && true))
    (kind_test q.0 e.1.0.0)
    ∙ ap (λ x. is_of_kind q.0 e.1.0 && x)
    (and_true _ ∙ is_true_is _ ∙ ap is_eq (value_cmp-Text e.1.1.owner q.1) ∙ sym (same-text_cmp e.1.1.owner q.1))

pub owner_found : (q : Key) (es : List Kept) (rows answer : List Row) → rows ≡ map stored es → are_apart es ≡ true
    → IsFound owner_tests entry_project by_key (key_params q) rows answer
    → map (entry_in q.0) answer ≡ rows_owned (map_of es) q.0 q.1
owner_found q = key_listed q.0 (owns q) (λ x h. sym (same_kind x.0.0 q.0 (and_left _ _ h))) owner_tests (key_params q)
    (owner_tests_are q)

-- ---- by prefix

-- what begins with a text is not below it
pub not_below : (xs p : List ℕ) → starts_with nat_eq xs p ≡ true → is_ge (slice_cmp nat_cmp xs p) ≡ true
not_below [] [] h = refl
not_below (x ∷ xs) [] h = refl
not_below [] (y ∷ p) h = absurd cc
not_below (x ∷ xs) (y ∷ p) h =
    let same : y ≡ x = (let e : nat_eq y x ≡ true = and_left (nat_eq y x) (starts_with nat_eq xs p) h in
    grind (arith, nat_tests)) in
    let tie : nat_cmp x y ≡ Equal = subst (λ k. nat_cmp x k ≡ Equal) (sym same) (tied_itself nat_cmp_total x) in
    ap (λ o. is_ge (ordering_then o (slice_cmp nat_cmp xs p))) tie
    ∙ not_below xs p (and_right (nat_eq y x) (starts_with nat_eq xs p) h)

-- whether a text is below the bound
abbrev below_bound : Term
below_bound = op2 (Compare Lt Binary) (col 1 2) (col 0 2)

abbrev pub is_below : Option Text → Text → Bool
is_below None x = true
is_below (Some bound) x = is_lt (text_cmp x bound)

pub bound_test : (q : Key) (bound : Option Text) (e : Kept)
    → holds (under_params q bound ∷ stored e ∷ []) below_bound ≡ is_below bound e.1.0.1
unfolding binary
bound_test q None e = is_true_is _ ∙ ap is_lt (value_cmp-apart (Words e.1.0.1) (Bytes []) (λ same. absurd cc))
bound_test q (Some bound) e = is_true_is _ ∙ ap is_lt (value_cmp-Text e.1.0.1 bound)

-- what passes two tests, one after the other
pub twice : {X : Type 0} (a b c : X → Bool) (xs : List X) → ((x : X) → (a x && b x) ≡ c x)
    → filter b (filter a xs) ≡ filter c xs
twice a b c [] h = refl
twice a b c (x ∷ xs) h = elim (a x) as
    (λ t. a x ≡ t → filter b (cond t (x ∷ filter a xs) (filter a xs)) ≡ cond (c x) (x ∷ filter c xs) (filter c xs)) [
      | true ↦ λ e. ap (λ t. cond t (x ∷ filter b (filter a xs)) (filter b (filter a xs)))
          (sym (ap (λ t. t && b x) e) ∙ h x) ∙ ap (λ l. cond (c x) (x ∷ l) l) (twice a b c xs h)
      | false ↦ λ e. twice a b c xs h ∙ ap (λ t. cond t (x ∷ filter c xs) (filter c xs))
          (ap (λ t. t && b x) (sym e) ∙ h x)
    ] refl

module _ (q : Key) (bound : Option Text) where
  -- of the kind, not below the prefix, and below the bound
  abbrev pub may_be_under : Key × Fields → Bool
  may_be_under e = is_of_kind q.0 e.0 && (is_ge (slice_cmp nat_cmp e.0.1 q.1) && is_below bound e.0.1)

  pub under_tests_are : (e : Kept) → list_all (holds (under_params q bound ∷ stored e ∷ [])) under_tests
      ≡ may_be_under e.1
  unfolding binary
  under_tests_are e =
      ap (λ x. x && (is_true (from_truth (Some (is_ge (value_cmp (Words e.1.0.1) (Words q.1)))))
      && (holds (under_params q bound ∷ stored e ∷ []) below_bound && true))) (kind_test q.0 e.1.0.0)
      ∙ ap (λ x. is_of_kind q.0 e.1.0 && (x && (holds (under_params q bound ∷ stored e ∷ []) below_bound && true)))
      (is_true_is _ ∙ ap is_ge (value_cmp-Text e.1.0.1 q.1))
      ∙ ap (λ x. is_of_kind q.0 e.1.0 && (is_ge (slice_cmp nat_cmp e.1.0.1 q.1) && x))
      (and_true _ ∙ bound_test q bound e)

  abbrev begins : Key × Fields → Bool
  begins e = starts_with nat_eq e.0.1 q.1

  abbrev is_under : Key × Fields → Bool
  is_under e = is_of_kind q.0 e.0 && starts_with nat_eq e.0.1 q.1

  pub under_bound : (b : Option Text) → IsAbove q.1 b → (x : Text) → starts_with nat_eq x q.1 ≡ true
      → is_below b x ≡ true
  under_bound None above x h = refl
  under_bound (Some b) above x h = above x h

  both_tests : IsAbove q.1 bound → (e : Key × Fields) → (may_be_under e && begins e) ≡ is_under e
  both_tests above e = elim (starts_with nat_eq e.0.1 q.1) as
      (λ b. starts_with nat_eq e.0.1 q.1 ≡ b → (may_be_under e && b) ≡ (is_of_kind q.0 e.0 && b)) [
        | true ↦ λ h. and_true _ ∙ ap (λ x. is_of_kind q.0 e.0 && (x && is_below bound e.0.1)) (not_below e.0.1 q.1 h)
            ∙ ap (λ x. is_of_kind q.0 e.0 && x) (under_bound bound above e.0.1 h)
        | false ↦ λ h. and_false (may_be_under e) ∙ sym (and_false (is_of_kind q.0 e.0))
      ] refl
    where
      and_false : (b : Bool) → (b && false) ≡ false
      and_false true = refl
      and_false false = refl

  pub under_found : IsAbove q.1 bound → (es : List Kept) (rows answer : List Row) → rows ≡ map stored es
      → are_apart es ≡ true → IsFound under_tests entry_project by_key (under_params q bound) rows answer
      → filter (λ e. starts_with nat_eq e.0.1 q.1) (map (entry_in q.0) answer) ≡ rows_under (map_of es) q.0 q.1
  under_found above es rows answer is apart f =
      ap (filter begins) (key_listed q.0 may_be_under (λ x h. sym (same_kind x.0.0 q.0 (and_left _ _ h))) under_tests
      (under_params q bound) under_tests_are es rows answer is apart f)
      ∙ twice may_be_under begins is_under (entries (map_of es)) (both_tests above)
