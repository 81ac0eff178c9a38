-- The pattern that a path finds, by its form.
use Rattle.std.proofs.Common.{◌≡◌, ◌≤◌, ◌∷◌, ℕ, List, [], length, drop, take, Bool, true, false, Some, None, nat_eq, ap}
use Rattle.records.specs.Words.{starts_with, refl, sym, ◌∙◌, subst, inl, inr, and_parts, false≢true, false_from_ne_true}
use Rattle.records.specs.Words.{none-some, mapped, mapped_none, Text, same, same_true}
use Rattle.matchit.specs.Seek.{first}
use Rattle.mounts.specs.Words.{Ending, nothing, segment, segments, Form, form_of, has_form, is_ending, is_literal}
use Rattle.mounts.specs.Words.{are_bytes, IsForm, Router, router_of, pattern_found, fits, is_in_order, has_pattern}
use Rattle.mounts.specs.Words.{RouteRow}
use Rattle.mounts.proofs.FormSearch.{search}
use Rattle.mounts.proofs.FormSeek.{seek_search}
use Rattle.mounts.proofs.FormFound.{found_is, found_none}
use Rattle.mounts.proofs.FormRouters.{Keys, forms_of, rows_forms, bytes_forms, has_is, is_has, IsLast, last_is}
use Rattle.mounts.proofs.FormsApart.{AreAlike, AreApart, last_apart}

-- ---- two forms of one path whose texts are as long

begun_by : (l q : Text) → starts_with nat_eq q l ≡ true → l ≡ take (length l) q
unfolding same
begun_by l q h = same_true l (take (length l) q) h

is_empty : Text → Bool
is_empty [] = true
is_empty (b ∷ t) = false

literal_by : (g : Ending) (rest : Text) → is_ending g rest ≡ true → is_literal g ≡ is_empty rest
unfolding is_empty
literal_by nothing [] h = refl
literal_by nothing (b ∷ rest) h = absurd (false≢true h)
literal_by segment [] h = absurd (false≢true h)
literal_by segment (b ∷ rest) h = refl
literal_by segments [] h = absurd (false≢true h)
literal_by segments (b ∷ rest) h = refl

alike : (f g : Form) (path : Text) → has_form f path ≡ true → has_form g path ≡ true
    → length f.literal ≡ length g.literal → AreAlike f g
alike f g path is_f is_g long =
    let of_f = and_parts _ _ is_f in
    let of_g = and_parts _ _ is_g in
    record {
      literal = begun_by f.literal path of_f.0 ∙ ap (λ (n : ℕ). take n path) long
          ∙ sym (begun_by g.literal path of_g.0);
      ending =
          literal_by f.ending (drop (length f.literal) path) of_f.1 ∙ ap (λ (n : ℕ). is_empty (drop n path)) long
          ∙ sym (literal_by g.ending (drop (length g.literal) path) of_g.1);
    }

-- ---- the pattern that a path finds

module _ (table : List RouteRow) (path : Text) (ordered : is_in_order table ≡ true)
    (bytes : are_bytes path ≡ true) where
  router_is : IsLast table [] (router_of table)
  unfolding router_of
  router_is =
      last_is None table [] (and_parts _ _ (and_parts (fits table) _ ordered).1).0 tt (λ q is. absurd (none-some q is))

  apart : AreApart (router_of table)
  unfolding router_of fits
  apart =
      let tests = and_parts (fits table) _ ordered in
      last_apart None table [] (and_parts _ _ tests.1).0 tests.0 tt (λ q is. absurd (none-some q is))
      (λ p q none _ _. absurd none)

  searched : first (router_of table) path ≡ search (forms_of (router_of table)) path
  searched =
      ap (λ (rs : Router). first rs path) (rows_forms (router_of table) router_is.are)
      ∙ seek_search (forms_of (router_of table)) path (bytes_forms (router_of table) router_is.are) bytes

  pub found_by_form : (p : Text) → pattern_found table path ≡ Some p → IsForm table path p
  found_by_form p h =
      let key = mapped (λ (r : Keys). r.value) (first (router_of table) path) p h in
      let found = found_is (forms_of (router_of table)) path key.0 (sym searched ∙ key.1) in
      let of = has_is (router_of table) found.literal found.ending key.0 found.has in
      let listed : has_pattern table p ≡ true = elim (router_is.from key.0.value of.has) [
        | inl is ↦ ap (has_pattern table) key.2 ∙ is
        | inr none ↦ absurd none
      ] in
      let form : has_form (form_of p) path ≡ true =
      ap (λ q. has_form (form_of q) path) key.2
      ∙ (λ i. has_form (record { literal = sym of.literal i; ending = sym of.ending i }) path) ∙ found.form in
      record {
        listed = listed;
        form = form;
        longest = λ other listed form.
            let there = is_has (router_of table) other (router_is.listed other listed) in
            let least = found.longest (form_of other).literal (form_of other).ending there.0 there.1 form in
            subst (λ (n : ℕ). length (form_of other).literal ≤ n)
            (ap length of.literal ∙ ap (λ q. length (form_of q).literal) (sym key.2)) least;
        only = λ other has is long.
            apart other p (router_is.listed other has) (router_is.listed p listed)
            (alike (form_of other) (form_of p) path is form long);
      }

  pub none_by_form : (p : Text) → pattern_found table path ≡ None → has_pattern table p ≡ true
      → has_form (form_of p) path ≡ false
  none_by_form p h listed =
      let none = mapped_none (λ (r : Keys). r.value) (first (router_of table) path) h in
      let there = is_has (router_of table) p (router_is.listed p listed) in
      false_from_ne_true (has_form (form_of p) path)
      (λ form. found_none (forms_of (router_of table)) path (sym searched ∙ none) (form_of p).literal
      (form_of p).ending there.0 there.1 form)
