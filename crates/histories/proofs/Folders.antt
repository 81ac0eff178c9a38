-- Which names the list of a folder has.
use Rattle.std.proofs.Common.{◌≡◌, ◌==◌, ◌&&◌, ◌++◌, ◌∷◌}
use Rattle.broker_model.specs.Words.{is_sorted, is_ascending, T_true, eqb_self, lacks, entries_sorted}
use Rattle.histories.specs.Words.{List, [], Bool, true, false, cond, drop, filter, length, map, nat_eq, not}
use Rattle.histories.specs.Words.{starts_with, refl, sym, ◌∙◌, ap, subst, inl, inr, and_parts, eqb-true, false≢true}
use Rattle.histories.specs.Words.{or_cases, or_left, or_right, not-true, Text, same, text_cmp, same_self, same_true}
use Rattle.histories.specs.Words.{entries, below, child, children, has, set_of, slash, has_set, IsFirstPart}
use Rattle.histories.specs.Words.{ListsFolder}

-- ---- the first part of a path

-- it is the whole path, or what is before the first slash, with that
first_is : (path : Text) → IsFirstPart path (child path)
first_is [] = inl (refl, refl)
first_is (c ∷ path) = by (c == slash) refl (first_is path)
  where
    by : (v : Bool) → (c == slash) ≡ v → IsFirstPart path (child path)
        → IsFirstPart (c ∷ path) (c ∷ cond v [] (child path))
    by true at rest =
        let is = eqb-true c slash at in
        inr ([], path, refl, ap (λ b. b ∷ path) is, ap (λ b. b ∷ []) is)
    by false apart rest = elim rest [
      | inl whole ↦ inl ((λ i. not (apart i) && whole.0 i), ap (λ t. c ∷ t) whole.1)
      | inr (segment, more, lacking, parts, name) ↦ inr (
        c ∷ segment,
        more,
        (λ i. not (apart i) && lacking i),
        ap (λ t. c ∷ t) parts,
        ap (λ t. c ∷ t) name,
      )
    ]

lacking_whole : (path : Text) → lacks slash path ≡ true → child path ≡ path
lacking_whole [] h = refl
lacking_whole (c ∷ path) h =
    let p = and_parts (not (c == slash)) (lacks slash path) h in
    ap (λ v. c ∷ cond v [] (child path)) (not-true (c == slash) p.0) ∙ ap (λ t. c ∷ t) (lacking_whole path p.1)

before_slash : (segment more : Text) → lacks slash segment ≡ true
    → child (segment ++ slash ∷ more) ≡ segment ++ slash ∷ []
before_slash [] more h = ap (λ v. slash ∷ cond v [] (child more)) (eqb_self slash)
before_slash (c ∷ segment) more h =
    let p = and_parts (not (c == slash)) (lacks slash segment) h in
    ap (λ v. c ∷ cond v [] (child (segment ++ slash ∷ more))) (not-true (c == slash) p.0)
    ∙ ap (λ t. c ∷ t) (before_slash segment more p.1)

-- there is one
first_one : (path name : Text) → IsFirstPart path name → child path ≡ name
first_one path name (inl (lacking, is)) = lacking_whole path lacking ∙ sym is
first_one path name (inr (segment, more, lacking, parts, is)) =
    ap child parts ∙ before_slash segment more lacking ∙ sym is

-- ---- what begins with a prefix

begins : (prefix path : Text) → starts_with nat_eq (prefix ++ path) prefix ≡ true
begins [] path = refl
begins (c ∷ prefix) path = λ i. eqb_self c i && begins prefix path i

behind : (prefix path : Text) → drop (length prefix) (prefix ++ path) ≡ path
behind [] path = refl
behind (c ∷ prefix) path = behind prefix path

joined : (prefix q : Text) → starts_with nat_eq q prefix ≡ true → prefix ++ drop (length prefix) q ≡ q
joined [] q h = refl
joined (c ∷ prefix) [] h = absurd (false≢true h)
joined (c ∷ prefix) (x ∷ q) h =
    let p = and_parts (nat_eq c x) (starts_with nat_eq q prefix) h in
    λ i. eqb-true c x p.0 i ∷ joined prefix q p.1 i

-- ---- the names

module _ (prefix : Text) where
  abbrev passes : Text → Bool
  passes q = starts_with nat_eq q prefix

  abbrev firsts : List Text → List Text
  firsts qs = map child (map (drop (length prefix)) qs)

  -- a path in the folder, with this first part
  abbrev IsOf : List Text → Text → Type 0
  IsOf paths name = (path : Text) × (has paths (prefix ++ path) ≡ true) × IsFirstPart path name

  only_first : (paths : List Text) (name : Text) → has (map child (below prefix paths)) name ≡ true
      → IsOf paths name
  only_first [] name h = absurd (false≢true h)
  only_first (q ∷ paths) name h =
      elim (passes q) as (λ v. passes q ≡ v
      → has (firsts (cond v (q ∷ filter passes paths) (filter passes paths))) name ≡ true → IsOf (q ∷ paths) name) [
        | true ↦ λ is h.
            let rest = drop (length prefix) q in
            elim (or_cases (same name (child rest)) (has (map child (below prefix paths)) name) h) [
              | inl here ↦ (
                rest,
                or_left (same (prefix ++ rest) q) (has paths (prefix ++ rest))
                    (subst (λ z. same (prefix ++ rest) z ≡ true) (joined prefix q is) (same_self (prefix ++ rest))),
                subst (IsFirstPart rest) (sym (same_true name (child rest) here)) (first_is rest),
              )
              | inr more ↦ later (only_first paths name more)
            ]
        | false ↦ λ _ h. later (only_first paths name h)
      ] refl h
    where
      later : IsOf paths name → IsOf (q ∷ paths) name
      later (path, there, first) =
          (path, or_right (same (prefix ++ path) q) (has paths (prefix ++ path)) there, first)

  all_firsts : (paths : List Text) (path name : Text) → has paths (prefix ++ path) ≡ true → IsFirstPart path name
      → has (map child (below prefix paths)) name ≡ true
  all_firsts [] path name h first = absurd (false≢true h)
  all_firsts (q ∷ paths) path name h first =
      elim (or_cases (same (prefix ++ path) q) (has paths (prefix ++ path)) h) [
        | inl here ↦
            let at = same_true (prefix ++ path) q here in
            ap (λ v. has (firsts (cond v (q ∷ filter passes paths) (filter passes paths))) name)
            (ap passes (sym at) ∙ begins prefix path)
            ∙ or_left (same name (child (drop (length prefix) q))) (has (firsts (filter passes paths)) name)
            (ap (same name) (ap (λ z. child (drop (length prefix) z)) (sym at) ∙ ap child (behind prefix path)
            ∙ first_one path name first)
            ∙ same_self name)
        | inr more ↦ later (passes q) (all_firsts paths path name more first)
      ]
    where
      later : (v : Bool) → has (firsts (filter passes paths)) name ≡ true
          → has (firsts (cond v (q ∷ filter passes paths) (filter passes paths))) name ≡ true
      later true h = or_right (same name (child (drop (length prefix) q))) (has (firsts (filter passes paths)) name) h
      later false h = h

-- ---- each once

sorted_ascend : {X : Type 0} (es : List (Text × X)) → is_sorted text_cmp es ≡ true
    → is_ascending (map (λ e. e.0) es) ≡ true
sorted_ascend [] h = refl
sorted_ascend (x ∷ []) h = refl
sorted_ascend (x ∷ y ∷ es) h =
    let outer = and_parts _ _ h in
    let inner = and_parts _ _ outer.0 in
    λ i. inner.0 i && sorted_ascend (y ∷ es) outer.1 i

pub folders_listed : (prefix : Text) (paths : List Text) → ListsFolder prefix paths (children prefix paths)
folders_listed prefix paths =
    let names = map child (below prefix paths) in
    record {
      once = sorted_ascend (entries (set_of names)) (T_true _ (entries_sorted (set_of names)));
      only = λ name h. only_first prefix paths name (sym (has_set names name) ∙ h);
      all = λ path name h first. has_set names name ∙ all_firsts prefix paths path name h first;
    }
