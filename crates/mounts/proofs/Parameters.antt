-- What an operation takes from a path is a path.
use Rattle.std.proofs.Common.{◌≡◌, ◌<◌, ◌||◌, ◌++◌, ◌∷◌, if◌then◌else◌, ℕ, List, [], suc, length, drop, get_or, Bool}
use Rattle.records.specs.Words.{true, false, not, cond, nat_eq, Some, None, option_map, Ok, is_ok, list_all}
use Rattle.records.specs.Words.{starts_with, refl, sym, ◌∙◌, ap, inl, inr, and_parts, and_from, false≢true, eqb-true}
use Rattle.records.specs.Words.{lt-ltb, none-some, same_Some, Text, same_true, is_path, ◌>>=◌, some_or, Verb, slash}
use Rattle.records.specs.Words.{ok_inj, begun}
use Rattle.std.specs.List.{find}
use Rattle.broker_types.specs.declared.refusal.Refusal.TheVariants as refusal
use Rattle.mounts.specs.declared.operation.Operation.{Operation}
use Rattle.mounts.specs.Words.{Ending, nothing, segment, segments, form_of, is_ending, is_literal, ends_segment}
use Rattle.mounts.specs.Words.{has_parameter, parameter, are_bytes, takes_parameter, fits, is_in_order, is_row}
use Rattle.mounts.specs.Words.{reads_as_form, tells, differ, pattern_found, Route, operation_for, methods_of, route_by}
use Rattle.mounts.specs.Words.{RouteRow}
use Rattle.mounts.proofs.FormPatterns.{found_by_form}
use Rattle.mounts.proofs.PathParts.{IsRest, rest_is_path}

-- ---- bytes

pub are_bytes_from : (t : Text) → ((k : ℕ) → get_or t k 0 < 256) → are_bytes t ≡ true
are_bytes_from [] h = refl
are_bytes_from (x ∷ t) h = and_from _ _ (lt-ltb x 256 (h 0)) (are_bytes_from t (λ k. h (suc k)))

-- ---- the form

front : (x : ℕ) (t : Text) → ends_segment (x ∷ t) ≡ true → (a : Text) × (x ∷ t ≡ a ++ slash ∷ [])
front x [] h = ([], ap (λ z. z ∷ []) (eqb-true x slash h))
front x (y ∷ t) h = let r = front y t h in (x ∷ r.0, ap (λ l. x ∷ l) r.1)

joined : (a rest : Text) → (a ++ slash ∷ []) ++ rest ≡ a ++ slash ∷ rest
joined [] rest = refl
joined (x ∷ a) rest = ap (λ l. x ∷ l) (joined a rest)

behind_is_path : (literal rest : Text) → ends_segment literal ≡ true → is_path (literal ++ rest) ≡ true
    → is_path rest ≡ true
behind_is_path [] rest ends good = good
behind_is_path (x ∷ t) rest ends good =
    let r = front x t ends in
    rest_is_path r.0 rest (ap is_path (sym (ap (λ l. l ++ rest) r.1 ∙ joined r.0 rest)) ∙ good)

-- what is a name or a path is not empty
not_empty : (g : Ending) → not (is_literal g) ≡ true → is_ending g [] ≡ true → ⊥
not_empty nothing some h = false≢true some
not_empty segment some h = false≢true h
not_empty segments some h = false≢true h

form_is_path : (q literal : Text) (g : Ending) → IsRest q → ends_segment literal ≡ true → not (is_literal g) ≡ true
    → starts_with nat_eq q literal ≡ true
    → is_ending g (drop (length literal) q) ≡ true → is_path (drop (length literal) q) ≡ true
form_is_path q literal g (inr good) ends some begins ending =
    behind_is_path literal (drop (length literal) q) ends (ap is_path (sym (begun literal q begins)) ∙ good)
form_is_path q [] g (inl none) ends some begins ending =
    absurd (not_empty g some (ap (is_ending g) (sym none) ∙ ending))
form_is_path q (x ∷ t) g (inl none) ends some begins ending =
    absurd (false≢true (ap (λ z. starts_with nat_eq z (x ∷ t)) (sym none) ∙ begins))

-- ---- the table

both_of : (a b : Bool) → a ≡ true → (not a || b) ≡ true → b ≡ true
both_of true b e h = h
both_of false b e h = absurd (false≢true e)

pattern_has : (rows : List RouteRow) (pattern : Text) (v : Verb) (o : Operation) → list_all tells rows ≡ true
    → operation_for rows pattern v ≡ Some o
    → takes_parameter o ≡ true → has_parameter (form_of pattern) ≡ true
pattern_has [] pattern v o all e takes = absurd (none-some _ e)
pattern_has (r ∷ rows) pattern v o all e takes =
    elim (is_row pattern v r) as (λ b. is_row pattern v r ≡ b
    → option_map (λ (x : RouteRow). x.operation) (cond b (Some r) (find (is_row pattern v) rows)) ≡ Some o
    → has_parameter (form_of pattern) ≡ true) [
      | true ↦ λ is k.
          let here : has_parameter (form_of r.pattern) ≡ true =
          both_of (takes_parameter r.operation) _ (ap takes_parameter (same_Some _ _ k) ∙ takes)
          (and_parts _ _ all).0 in
          ap (λ p. has_parameter (form_of p)) (sym (same_true r.pattern pattern (and_parts _ _ is).0)) ∙ here
      | false ↦ λ _ k. pattern_has rows pattern v o (and_parts _ _ all).1 k takes
    ] refl e

-- ---- the route

abbrev made : Text → Text → Text → Operation → Route
made mount pattern q o = record { operation = o; mount = mount; parameter = parameter pattern q }

pub parameter_is_path : (rows : List RouteRow) → is_in_order rows ≡ true
    → (v : Verb) (mount q pattern : Text) (r : Route) → IsRest q → are_bytes q ≡ true
    → pattern_found rows q ≡ Some pattern → route_by rows v mount q pattern ≡ Ok r → takes_parameter r.operation ≡ true
    → is_path r.parameter ≡ true
parameter_is_path rows ordered v mount q pattern r rest bytes found h takes =
    elim (operation_for rows pattern v) as (λ o. operation_for rows pattern v ≡ o
    → (some_or (refusal.MethodNotAllowed (methods_of rows pattern)) o >>=
    (λ operation. Ok (made mount pattern q operation))) ≡ Ok r
    → is_path r.parameter ≡ true) [
      | None ↦ λ _ k. absurd (false≢true (ap is_ok k))
      | Some o ↦ λ is k. of o is (ok_inj k)
    ] refl h
  where
    of : (o : Operation) → operation_for rows pattern v ≡ Some o → made mount pattern q o ≡ r
        → is_path r.parameter ≡ true
    of o is one =
        let form = and_parts _ _ (found_by_form rows q ordered bytes pattern found).form in
        let tests = and_parts (fits rows) _ ordered in
        let later = and_parts (list_all (λ (r : RouteRow). reads_as_form r.pattern) rows) _ tests.1 in
        let all = (and_parts (list_all tells rows) (differ rows) later.1).0 in
        let has = pattern_has rows pattern v o all is (ap (λ (z : Route). takes_parameter z.operation) one ∙ takes) in
        let parts = and_parts (not (is_literal (form_of pattern).ending)) _ has in
        let literal = (form_of pattern).literal in
        ap (λ (z : Route). is_path z.parameter) (sym one)
        ∙ ap (λ b. is_path (if b then drop (length literal) q else [])) form.0
        ∙ form_is_path q literal (form_of pattern).ending rest parts.1 parts.0 form.0 form.1
