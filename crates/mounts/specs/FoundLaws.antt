-- Which pattern a path finds, and which row an operation is of.
use Rattle.std.proofs.Common.{◌≡◌, ◌||◌, ◌++◌, ◌∷◌, List, [], Bool, true, false, not, cond, unwrap_or, Option, Some, ap}
use Rattle.records.specs.Words.{None, option_map, list_all, refl, sym, ◌∙◌, subst, inl, inr, and_parts, false≢true}
use Rattle.records.specs.Words.{or_cases, none-some, same_Some, Text, same, same_true, Verb, slash, split_once}
use Rattle.records.specs.Words.{lacking_split}
use Rattle.std.specs.List.{find}
use Rattle.mounts.specs.Forms.{form_of, has_form, are_bytes}
use Rattle.mounts.specs.Laws.{FoundByForm, IsForm, NoneFoundByForm}
use Rattle.mounts.specs.Patterns.{has_pattern, is_in_order, is_row, pattern_found, same_verb}
use Rattle.mounts.specs.Route.{cut, operation_for}
use Rattle.mounts.specs.RouteRow.{RouteRow}
use Rattle.mounts.specs.declared.operation.Operation.{Operation}

-- ---- a pattern that alone has the form of a path

-- whether it is the pattern, or one whose form the path has not
abbrev pub is_or_apart : Text → Text → Text → Bool
is_or_apart path pattern other = same other pattern || not (has_form (form_of other) path)

-- what each pattern of rows passes, one that is listed passes
passes : (q : Text → Bool) (rows : List RouteRow) (pattern : Text)
    → list_all (λ (r : RouteRow). q r.pattern) rows ≡ true
    → has_pattern rows pattern ≡ true → q pattern ≡ true
passes q [] pattern all listed = absurd (false≢true listed)
passes q (r ∷ rows) pattern all listed =
    let parts = and_parts (q r.pattern) (list_all (λ (r : RouteRow). q r.pattern) rows) all in
    elim (or_cases (same r.pattern pattern) (has_pattern rows pattern) listed) as (λ _. q pattern ≡ true) [
      | inl here ↦ subst (λ t. q t ≡ true) (same_true r.pattern pattern here) parts.0
      | inr later ↦ passes q rows pattern parts.1 later
    ]

module _ (found : FoundByForm) (none : NoneFoundByForm) where
  -- a path finds the only pattern of a table that has its form
  pub found_alone : (rows : List RouteRow) (path pattern : Text) → is_in_order rows ≡ true → are_bytes path ≡ true
      → has_pattern rows pattern ≡ true → has_form (form_of pattern) path ≡ true
      → list_all (λ (r : RouteRow). is_or_apart path pattern r.pattern) rows ≡ true
      → pattern_found rows path ≡ Some pattern
  found_alone rows path pattern ordered bytes listed form alone = by (pattern_found rows path) refl
    where
      is : (other : Text) → IsForm rows path other → other ≡ pattern
      is other has =
          elim (or_cases (same other pattern) (not (has_form (form_of other) path))
          (passes (is_or_apart path pattern) rows other alone has.listed))
          as (λ _. other ≡ pattern) [
            | inl one ↦ same_true other pattern one
            | inr apart ↦ absurd (false≢true (sym (ap not has.form) ∙ apart))
          ]

      by : (o : Option Text) → pattern_found rows path ≡ o → o ≡ Some pattern
      by None e = absurd (false≢true (sym (none rows path pattern ordered bytes e listed) ∙ form))
      by (Some other) e = ap Some (is other (found rows path other ordered bytes e))

-- ---- rows

-- the row of an operation, which passes what all rows pass
pub record IsRowOf (q : RouteRow → Bool) (pattern : Text) (v : Verb) (o : Operation) : Type 0 where
  pub row : RouteRow
  pub passes : q row ≡ true
  pub pattern_is : row.pattern ≡ pattern
  pub verb_is : same_verb row.verb v ≡ true
  pub operation_is : row.operation ≡ o

pub row_of : (q : RouteRow → Bool) (rows : List RouteRow) (pattern : Text) (v : Verb) (o : Operation)
    → list_all q rows ≡ true
    → operation_for rows pattern v ≡ Some o → IsRowOf q pattern v o
row_of q [] pattern v o all e = absurd (none-some _ e)
row_of q (r ∷ rows) pattern v o all e =
    let parts = and_parts (q r) (list_all q rows) all in
    elim (is_row pattern v r) as (λ b. is_row pattern v r ≡ b
    → option_map (λ (x : RouteRow). x.operation) (cond b (Some r) (find (is_row pattern v) rows)) ≡ Some o
    → IsRowOf q pattern v o) [
      | true ↦ λ is k. record {
        row = r;
        passes = parts.0;
        pattern_is = same_true r.pattern pattern (and_parts (same r.pattern pattern) (same_verb r.verb v) is).0;
        verb_is = (and_parts (same r.pattern pattern) (same_verb r.verb v) is).1;
        operation_is = same_Some _ _ k;
      }
      | false ↦ λ _ k. row_of q rows pattern v o parts.1 k
    ] refl e

-- ---- bytes

bytes_behind : (a p : Text) → are_bytes (a ++ slash ∷ p) ≡ true → are_bytes p ≡ true
bytes_behind [] p h = h
bytes_behind (x ∷ a) p h = bytes_behind a p (and_parts _ _ h).1

-- what follows the first segment of a path of bytes is of bytes
pub bytes_of_rest : (path : Text) → are_bytes path ≡ true → are_bytes (cut path).1 ≡ true
bytes_of_rest path h =
    elim (split_once slash path) as (λ (o : Option (Text × Text)). split_once slash path ≡ o
    → are_bytes (unwrap_or o (path, [])).1 ≡ true) [
      | None ↦ λ _. refl
      | Some p ↦ λ is. bytes_behind p.0 p.1 (ap are_bytes (sym (lacking_split slash path p is).0) ∙ h)
    ] refl
