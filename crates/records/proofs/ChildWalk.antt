-- The children of a folder, found by a walk over pages of its keys that passes each child's other keys over.
use Rattle.std.proofs.Common.{◌≡◌, ◌<◌, ◌+◌, ◌-◌, ◌==◌, ◌∷◌, ◌++◌, if◌then◌else◌, ◌&&◌, ◌≤◌, ℕ, List, [], map, filter}
use Rattle.records.specs.Words.{take, drop, length, slice_get, nat_eq, Bool, true, false, cond, Some, None, ⊤, min}
use Rattle.records.specs.Words.{Ordering, Less, Equal, Greater, nat_cmp, is_ge, ordering_then, ordering_reverse}
use Rattle.records.specs.Words.{nat_cmp_total, tied_itself, nat_list_cmp_total, entries, is_sorted, below_all}
use Rattle.records.specs.Words.{starts_with, AllByRecursion, refl, sym, ◌∙◌, ap, subst, arith, and_parts, false≢true}
use Rattle.records.specs.Words.{eqb-true, take-append-drop, take_all, length-map, length-take, Text, text_cmp, same}
use Rattle.records.specs.Words.{same_self, same_true, is_less, T_true, Kind, Row, RowKey, is_of_kind, child, past}
use Rattle.records.specs.Words.{below, is_text, push_once, push_each, named, listed-sorted, names_are, slash, Rows}
use Rattle.records.specs.Words.{rows_under, rows_from, not_below_none, begun, after_prefix}
use Rattle.records.proofs.ChildLemmas.{below_one, push_more}
use Rattle.records.proofs.ChildrenInOrder.{last_is}

-- ---- paths, and what is past their first parts

past_above : (a : Text) → text_cmp a (past a) ≡ Less
past_above [] = refl
past_above (c ∷ a) =
    elim (c == slash) as (
    λ v. (c == slash) ≡ v → text_cmp (c ∷ a) (if v then (slash + 1) ∷ [] else c ∷ past a) ≡ Less
    ) [
      | true ↦ λ at. ap (λ n. ordering_then (nat_cmp n (slash + 1)) (text_cmp a [])) (eqb-true c slash at)
      | false ↦ λ _. ap (λ o. ordering_then o (text_cmp a (past a))) (tied_itself nat_cmp_total c) ∙ past_above a
    ] refl

not_under : (d : ℕ) (b : Text) (o : Ordering) → nat_cmp d 0 ≡ o → is_ge (ordering_then o (text_cmp b [])) ≡ false → ⊥
not_under d b Less is h = let low : d < 0 = grind (arith, is) in omega (arith, low)
not_under d b Equal is h = false≢true (sym h ∙ not_below_none b)
not_under d b Greater is h = false≢true (sym h)

-- a path above another that is not past its first part has the same one
same_child : (a b : Text) → text_cmp a b ≡ Less → is_ge (text_cmp b (past a)) ≡ false → child b ≡ child a
same_child [] [] less low = absurd cc
same_child [] (d ∷ b) less low = absurd (not_under d b (nat_cmp d 0) refl low)
same_child (c ∷ a) [] less low = absurd cc
same_child (c ∷ a) (d ∷ b) less low =
    elim (c == slash) as (λ v. (c == slash) ≡ v
    → is_ge (text_cmp (d ∷ b) (if v then (slash + 1) ∷ [] else c ∷ past a)) ≡ false
    → child (d ∷ b) ≡ c ∷ (if v then [] else child a)) [
      | true ↦ λ at h. here at h
      | false ↦ λ at h. later (same_child a b) at h
    ] refl low
  where
    one_of : (o : Ordering) → nat_cmp c d ≡ o → ordering_then o (text_cmp a b) ≡ Less → c ≤ d
    one_of Less is h = grind (arith, is)
    one_of Equal is h = grind (arith, is)
    one_of Greater is h = absurd cc

    up : c ≤ d
    up = one_of (nat_cmp c d) refl less

    not_up : (n : ℕ) (rest : Text) (o : Ordering) → nat_cmp d n ≡ o → is_ge (ordering_then o (text_cmp b rest)) ≡ false
        → d ≤ n
    not_up n rest Less is h = grind (arith, is)
    not_up n rest Equal is h = grind (arith, is)
    not_up n rest Greater is h = absurd cc

    under_it : (o : Ordering) → nat_cmp d (slash + 1) ≡ o → is_ge (ordering_then o (text_cmp b [])) ≡ false
        → d < slash + 1
    under_it Less is h = grind (arith, is)
    under_it Equal is h = absurd (false≢true (sym h ∙ not_below_none b))
    under_it Greater is h = absurd cc

    here : (c == slash) ≡ true → is_ge (text_cmp (d ∷ b) ((slash + 1) ∷ [])) ≡ false → child (d ∷ b) ≡ c ∷ []
    here at h =
        let c_is : c ≡ slash = eqb-true c slash at in
        let low : d < slash + 1 = under_it (nat_cmp d (slash + 1)) refl h in
        let above : c ≤ d = up in
        let d_is : d ≡ c = omega (arith, c_is, low, above) in
        (λ i. d ∷ (if (ap (λ n. n == slash) d_is ∙ at) i then [] else child b)) ∙ ap (λ n. n ∷ []) d_is

    later : (text_cmp a b ≡ Less → is_ge (text_cmp b (past a)) ≡ false → child b ≡ child a) → (c == slash) ≡ false
        → is_ge (text_cmp (d ∷ b) (c ∷ past a)) ≡ false → child (d ∷ b) ≡ c ∷ child a
    later rest at h =
        let down : d ≤ c = not_up c (past a) (nat_cmp d c) refl h in
        let d_is : d ≡ c = omega (arith, up, down) in
        let tie : nat_cmp c d ≡ Equal = ap (nat_cmp c) d_is ∙ tied_itself nat_cmp_total c in
        let tie_back : nat_cmp d c ≡ Equal = ap (λ n. nat_cmp n c) d_is ∙ tied_itself nat_cmp_total c in
        let less_rest : text_cmp a b ≡ Less = sym (ap (λ o. ordering_then o (text_cmp a b)) tie) ∙ less in
        let low_rest : is_ge (text_cmp b (past a)) ≡ false =
        sym (ap (λ o. is_ge (ordering_then o (text_cmp b (past a)))) tie_back) ∙ h in
        (λ i. d ∷ (if (ap (λ n. n == slash) d_is ∙ at) i then [] else child b))
        ∙ (λ i. d_is i ∷ rest less_rest low_rest i)

-- what is past a first part is past the path
past_child : (a : Text) → past (child a) ≡ past a
past_child [] = refl
past_child (c ∷ a) =
    elim (c == slash) as (λ v. (c == slash) ≡ v
    → past (c ∷ (if v then [] else child a)) ≡ (if v then (slash + 1) ∷ [] else c ∷ past a)) [
      | true ↦ λ at. ap (λ v. if v then (slash + 1) ∷ [] else c ∷ past []) at
      | false ↦ λ at. ap (λ v. if v then (slash + 1) ∷ [] else c ∷ past (child a)) at ∙ ap (λ p. c ∷ p) (past_child a)
    ] refl

-- ---- keys that rise

abbrev Climbs : List Text → Type 0
Climbs [] = ⊤
Climbs (k ∷ ks) = AllByRecursion (λ q. text_cmp k q ≡ Less) ks × Climbs ks

abbrev is_from : Text → Text → Bool
is_from bound k = is_ge (text_cmp k bound)

all_kept : (P : Text → Type 0) (p : Text → Bool) (ks : List Text) → AllByRecursion P ks → AllByRecursion P (filter p ks)
all_kept P p [] h = tt
all_kept P p (k ∷ ks) h = elim (p k) as (λ b. AllByRecursion P (cond b (k ∷ filter p ks) (filter p ks))) [
  | true ↦ (h.0, all_kept P p ks h.1)
  | false ↦ all_kept P p ks h.1
]

climbs_kept : (p : Text → Bool) (ks : List Text) → Climbs ks → Climbs (filter p ks)
climbs_kept p [] h = tt
climbs_kept p (k ∷ ks) h = elim (p k) as (λ b. Climbs (cond b (k ∷ filter p ks) (filter p ks))) [
  | true ↦ (all_kept (λ q. text_cmp k q ≡ Less) p ks h.0, climbs_kept p ks h.1)
  | false ↦ climbs_kept p ks h.1
]

all_pass : (p : Text → Bool) (ks : List Text) → AllByRecursion (λ k. p k ≡ true) (filter p ks)
all_pass p [] = tt
all_pass p (k ∷ ks) =
    elim (p k) as (λ b. p k ≡ b → AllByRecursion (λ k. p k ≡ true) (cond b (k ∷ filter p ks) (filter p ks))) [
      | true ↦ λ is. (is, all_pass p ks)
      | false ↦ λ _. all_pass p ks
    ] refl

all_after : (P : Text → Type 0) (ks more : List Text) → AllByRecursion P (ks ++ more) → AllByRecursion P more
all_after P [] more h = h
all_after P (k ∷ ks) more h = all_after P ks more h.1

climbs_after : (ks more : List Text) → Climbs (ks ++ more) → Climbs more
climbs_after [] more h = h
climbs_after (k ∷ ks) more h = climbs_after ks more h.1

below_climbs : {X : Type 0} (k : Text) (es : List (Text × X)) → below_all text_cmp k es ≡ true
    → AllByRecursion (λ q. text_cmp k q ≡ Less) (map (λ e. e.0) es)
below_climbs k [] h = tt
below_climbs k (e ∷ es) h = let parts = and_parts _ _ h in (is_less _ parts.0, below_climbs k es parts.1)

sorted_climbs : {X : Type 0} (es : List (Text × X)) → is_sorted text_cmp es ≡ true → Climbs (map (λ e. e.0) es)
sorted_climbs [] h = tt
sorted_climbs (e ∷ es) h = let parts = and_parts _ _ h in (below_climbs e.0 es parts.0, sorted_climbs es parts.1)

-- what is above a key at a bound is at the bound
carried : (bound k q : Text) → text_cmp k q ≡ Less → is_from bound k ≡ true → is_from bound q ≡ true
carried bound k q up at =
    elim (text_cmp q bound) as (λ o. text_cmp q bound ≡ o → is_ge o ≡ true) [
      | Less ↦ λ low. absurd (false≢true (sym (ap is_ge (nat_list_cmp_total.trans k q bound up low)) ∙ at))
      | Equal ↦ λ _. refl
      | Greater ↦ λ _. refl
    ] refl

all_from : (bound k : Text) (ks : List Text) → AllByRecursion (λ q. text_cmp k q ≡ Less) ks → is_from bound k ≡ true
    → filter (is_from bound) ks ≡ ks
all_from bound k [] up at = refl
all_from bound k (q ∷ ks) up at =
    ap (λ b. cond b (q ∷ filter (is_from bound) ks) (filter (is_from bound) ks)) (carried bound k q up.0 at)
    ∙ ap (λ qs. q ∷ qs) (all_from bound k ks up.1 at)

-- a higher bound is the only one that counts
filter_inner : (a b : Text → Bool) → ((x : Text) → b x ≡ true → a x ≡ true) → (ks : List Text)
    → filter b (filter a ks) ≡ filter b ks
filter_inner a b f [] = refl
filter_inner a b f (k ∷ ks) = elim (a k) as
    (λ v. a k ≡ v → filter b (cond v (k ∷ filter a ks) (filter a ks)) ≡ cond (b k) (k ∷ filter b ks) (filter b ks)) [
      | true ↦ λ _. ap (λ qs. cond (b k) (k ∷ qs) qs) (filter_inner a b f ks)
      | false ↦ λ out. filter_inner a b f ks ∙ sym (ap (λ v. cond v (k ∷ filter b ks) (filter b ks)) (not_b out))
    ] refl
  where
    not_b : a k ≡ false → b k ≡ false
    not_b out = elim (b k) as (λ v. b k ≡ v → v ≡ false) [
      | true ↦ λ is. absurd (false≢true (sym out ∙ f k is))
      | false ↦ λ _. refl
    ] refl

-- ---- the last text

abbrev EndsIn : List Text → Text → Type 0
EndsIn texts t = slice_get texts (length texts - 1) ≡ Some t

once_ends : (texts : List Text) (t : Text) → EndsIn (push_once texts t) t
once_ends texts t =
    elim (slice_get texts (length texts - 1)) as
    (λ o. slice_get texts (length texts - 1) ≡ o → EndsIn (if is_text t o then texts else texts ++ t ∷ []) t) [
      | None ↦ λ _. last_is texts t
      | Some x ↦ λ last. elim (same x t) as (λ v. same x t ≡ v → EndsIn (if v then texts else texts ++ t ∷ []) t) [
        | true ↦ λ is. last ∙ ap Some (same_true x t is)
        | false ↦ λ _. last_is texts t
      ] refl
    ] refl

once_again : (texts : List Text) (t : Text) → EndsIn texts t → push_once texts t ≡ texts
once_again texts t last = ap (λ o. if is_text t o then texts else texts ++ t ∷ []) last
    ∙ ap (λ v. if v then texts else texts ++ t ∷ []) (same_self t)

-- ---- a page of keys, and what is past it

module _ (prefix : Text) where
  abbrev Begins : Text → Type 0
  Begins k = starts_with nat_eq k prefix ≡ true

  abbrev rest : Text → Text
  rest k = drop (length prefix) k

  abbrev beyond : Text → Text
  beyond k = prefix ++ past (rest k)

  abbrev pub found_in : List Text → List Text
  found_in ks = map child (below prefix ks)

  key_above : (k : Text) → Begins k → text_cmp k (beyond k) ≡ Less
  key_above k is = ap (λ q. text_cmp q (beyond k)) (begun prefix k is) ∙ after_prefix prefix (rest k) (past (rest k))
      ∙ past_above (rest k)

  key_same : (k q : Text) → Begins k → Begins q → text_cmp k q ≡ Less → is_from (beyond k) q ≡ false
      → child (rest q) ≡ child (rest k)
  key_same k q is_k is_q up low =
      same_child (rest k) (rest q)
      (sym (after_prefix prefix (rest k) (rest q)) ∙ sym (λ i. text_cmp (begun prefix k is_k i) (begun prefix q is_q i))
      ∙ up)
      (ap is_ge (sym (after_prefix prefix (rest q) (past (rest k))))
      ∙ sym (ap (λ z. is_ge (text_cmp z (beyond k))) (begun prefix q is_q)) ∙ low)

  -- the keys that are skipped add nothing
  skips : (texts more : List Text) (z : Text) → EndsIn texts (child (rest z)) → Begins z
      → AllByRecursion (λ q. text_cmp z q ≡ Less) more → Climbs more
      → AllByRecursion Begins more → push_each texts (found_in more)
      ≡ push_each texts (found_in (filter (is_from (beyond z)) more))
  skips texts [] z ends is_z up climbs all = refl
  skips texts (q ∷ more) z ends is_z up climbs all =
      elim (is_from (beyond z) q) as (λ v. is_from (beyond z) q ≡ v → push_each texts (found_in (q ∷ more))
      ≡ push_each texts (found_in (cond v (q ∷ filter (is_from (beyond z)) more) (filter (is_from (beyond z)) more)))) [
        | true ↦ λ at. ap (λ qs. push_each texts (found_in (q ∷ qs))) (sym (all_from (beyond z) q more climbs.0 at))
        | false ↦ λ low.
            push_more prefix q more texts ∙ ap (λ ts. push_each (push_each texts (map child ts)) (found_in more))
            (below_one prefix q all.0)
            ∙ ap (λ t. push_each (push_once texts t) (found_in more)) (key_same z q is_z all.0 up.0 low)
            ∙ ap (λ ts. push_each ts (found_in more)) (once_again texts (child (rest z)) ends)
            ∙ skips texts more z ends is_z up.1 climbs.1 all.1
      ] refl

  last_of : Text → List Text → Text
  last_of k [] = k
  last_of k (q ∷ page) = last_of q page

  last_begins : (k : Text) (page more : List Text) → Begins k → AllByRecursion Begins (page ++ more)
      → Begins (last_of k page)
  unfolding last_of
  last_begins k [] more is all = is
  last_begins k (q ∷ page) more is all = last_begins q page more all.0 all.1

  last_below : (k : Text) (page more : List Text) → Climbs (k ∷ page ++ more)
      → AllByRecursion (λ q. text_cmp (last_of k page) q ≡ Less) more
  unfolding last_of
  last_below k [] more climbs = climbs.0
  last_below k (q ∷ page) more climbs = last_below q page more climbs.1

  last_child : (texts : List Text) (k : Text) (page more : List Text) → Begins k → AllByRecursion Begins (page ++ more)
      → EndsIn (push_each texts (found_in (k ∷ page))) (child (rest (last_of k page)))
  unfolding last_of
  last_child texts k [] more is all =
      ap (λ ts. slice_get (push_each texts (map child ts)) (length (push_each texts (map child ts)) - 1))
      (below_one prefix k is) ∙ once_ends texts (child (rest k))
  last_child texts k (q ∷ page) more is all =
      let step : push_each texts (found_in (k ∷ q ∷ page)) ≡ push_each (push_each texts (found_in (k ∷ [])))
      (found_in (q ∷ page)) = push_more prefix k (q ∷ page) texts in
      ap (λ ts. slice_get ts (length ts - 1)) step
      ∙ last_child (push_each texts (found_in (k ∷ []))) q page more all.0 all.1

  -- no key of the page is past it
  page_below : (k : Text) (page more : List Text) → Climbs (k ∷ page ++ more) → Begins k
      → AllByRecursion Begins (page ++ more)
      → (text_cmp k (beyond (last_of k page)) ≡ Less)
      × (filter (is_from (beyond (last_of k page))) (k ∷ page ++ more)
      ≡ filter (is_from (beyond (last_of k page))) more)
  unfolding last_of
  page_below k [] more climbs is all =
      let low = key_above k is in
      (low, ap (λ o. cond (is_ge o) (k ∷ filter (is_from (beyond k)) more) (filter (is_from (beyond k)) more)) low)
  page_below k (q ∷ page) more climbs is all =
      let later = page_below q page more climbs.1 all.0 all.1 in
      let bound = beyond (last_of q page) in
      let low : text_cmp k bound ≡ Less = nat_list_cmp_total.trans k q bound climbs.0.0 later.0 in (
        low,
        ap (λ o. cond (is_ge o) (k ∷ filter (is_from bound) (q ∷ page ++ more))
            (filter (is_from bound) (q ∷ page ++ more))) low ∙ later.1,
      )

  push_page : (texts page more : List Text)
      → push_each texts (found_in (page ++ more)) ≡ push_each (push_each texts (found_in page)) (found_in more)
  push_page texts [] more = refl
  push_page texts (k ∷ page) more =
      push_more prefix k (page ++ more) texts ∙ push_page (push_each texts (found_in (k ∷ []))) page more
      ∙ ap (λ ts. push_each ts (found_in more)) (sym (push_more prefix k page texts))

  -- a bound below a key is below all that is past the key
  narrower : (from k bound : Text) → is_from from k ≡ true → text_cmp k bound ≡ Less → (x : Text)
      → is_from bound x ≡ true → is_from from x ≡ true
  narrower from k bound at low x past_it =
      elim (text_cmp x from) as (λ o. text_cmp x from ≡ o → is_ge o ≡ true) [
        | Less ↦ λ under. absurd (false≢true (sym (ap is_ge (below_bound under)) ∙ past_it))
        | Equal ↦ λ _. refl
        | Greater ↦ λ _. refl
      ] refl
    where
      below_bound : text_cmp x from ≡ Less → text_cmp x bound ≡ Less
      below_bound under = elim (text_cmp k from) as
          (λ o. text_cmp k from ≡ o → is_ge o ≡ true → text_cmp x bound ≡ Less) [
            | Less ↦ λ _ h. absurd (false≢true h)
            | Equal ↦ λ tie _. nat_list_cmp_total.trans x from bound under
                (sym (nat_list_cmp_total.congr k from bound tie) ∙ low)
            | Greater ↦ λ over _.
                nat_list_cmp_total.trans x k bound
                (nat_list_cmp_total.trans x from k under
                (nat_list_cmp_total.antisymm from k ∙ ap ordering_reverse over))
                low
          ] refl at

  -- one page of a walk, and what the walk goes on with
  abbrev GoesOn : List Text → List Text → List Text → List Text → Text → Type 0
  GoesOn all page texts found t =
      EndsIn (push_each texts (found_in page)) t
      × (push_each texts (found_in found) ≡ push_each (push_each texts (found_in page))
      (found_in (filter (is_from (prefix ++ past t)) all)))

  page_walked : (all page more texts : List Text) (from : Text) → Climbs all → AllByRecursion Begins all
      → filter (is_from from) all ≡ page ++ more
      → 0 < length page → (t : Text) × GoesOn all page texts (filter (is_from from) all) t
  page_walked all [] more texts from climbs begin split some = absurd (omega (arith, some))
  page_walked all (k ∷ page) more texts from climbs begin split some =
      let z = last_of k page in
      let bound = beyond z in
      let now = push_each texts (found_in (k ∷ page)) in
      let up : Climbs (k ∷ page ++ more) = subst Climbs split (climbs_kept (is_from from) all climbs) in
      let here : AllByRecursion Begins (k ∷ page ++ more) =
      subst (AllByRecursion Begins) split (all_kept Begins (is_from from) all begin) in
      let at : AllByRecursion (λ q. is_from from q ≡ true) (k ∷ page ++ more) =
      subst (AllByRecursion (λ q. is_from from q ≡ true)) split (all_pass (is_from from) all) in
      let ends : EndsIn now (child (rest z)) = last_child texts k page more here.0 here.1 in
      let low = page_below k page more up here.0 here.1 in
      let bound_is : prefix ++ past (child (rest z)) ≡ bound = ap (λ p. prefix ++ p) (past_child (rest z)) in (
        child (rest z),
        (
          ends,
          ap (λ ks. push_each texts (found_in ks)) split ∙ push_page texts (k ∷ page) more
              ∙ skips now more z ends (last_begins k page more here.0 here.1) (last_below k page more up)
              (climbs_after (k ∷ page) more up) (all_after Begins (k ∷ page) more here)
              ∙ ap (λ ks. push_each now (found_in ks)) (sym low.1 ∙ sym (ap (filter (is_from bound)) split)
              ∙ filter_inner (is_from from) (is_from bound) (narrower from k bound at.0 low.0) all)
              ∙ sym (ap (λ b. push_each now (found_in (filter (is_from b) all))) bound_is),
        ),
      )

-- ---- pages of rows

abbrev pub keys_of : List (RowKey × Row) → List Text
keys_of es = map (λ e. e.0.1) es

keys_kept : (p : Text → Bool) (es : List (RowKey × Row)) → keys_of (filter (λ e. p e.0.1) es) ≡ filter p (keys_of es)
keys_kept p [] = refl
keys_kept p (e ∷ es) =
    elim (p e.0.1) as (λ b. keys_of (cond b (e ∷ filter (λ e. p e.0.1) es) (filter (λ e. p e.0.1) es))
    ≡ cond b (e.0.1 ∷ filter p (keys_of es)) (filter p (keys_of es))) [
      | true ↦ ap (λ ks. e.0.1 ∷ ks) (keys_kept p es)
      | false ↦ keys_kept p es
    ]

module _ (rows : Rows) (kind : Kind) (prefix : Text) where
  all_climb : Climbs (keys_of (rows_under rows kind prefix))
  all_climb =
      subst Climbs (sym (names_are (rows_under rows kind prefix)))
      (sorted_climbs (named (rows_under rows kind prefix)) (T_true _ (listed-sorted kind prefix rows)))

  begin_each : (es : List (RowKey × Row)) → AllByRecursion (Begins prefix)
      (keys_of (filter (λ e. is_of_kind kind e.0 && starts_with nat_eq e.0.1 prefix) es))
  begin_each [] = tt
  begin_each (e ∷ es) =
      let passes = λ (e : RowKey × Row). is_of_kind kind e.0 && starts_with nat_eq e.0.1 prefix in
      elim (passes e) as (λ b. passes e ≡ b
      → AllByRecursion (Begins prefix) (keys_of (cond b (e ∷ filter passes es) (filter passes es)))) [
        | true ↦ λ is. ((and_parts _ _ is).1, begin_each es)
        | false ↦ λ _. begin_each es
      ] refl

  abbrev pub children_from : Text → List Text
  children_from from = found_in prefix (keys_of (rows_from rows kind prefix from))

  -- a walk begins with all rows
  pub from_start : children_from [] ≡ found_in prefix (keys_of (rows_under rows kind prefix))
  from_start = ap (found_in prefix)
      (keys_kept (is_from []) (rows_under rows kind prefix) ∙ none_below (keys_of (rows_under rows kind prefix)))
    where
      none_below : (ks : List Text) → filter (is_from []) ks ≡ ks
      none_below [] = refl
      none_below ([] ∷ ks) = ap (λ qs. [] ∷ qs) (none_below ks)
      none_below ((c ∷ k) ∷ ks) = ap (λ qs. (c ∷ k) ∷ qs) (none_below ks)

  module _ (from : Text) (count : ℕ) (texts : List Text) (page : List (RowKey × Row))
      (is : page ≡ take count (rows_from rows kind prefix from)) where
    -- a short page is the last
    pub walk_ends : length page < count → push_each texts (children_from from)
        ≡ push_each texts (found_in prefix (keys_of page))
    walk_ends short = ap (λ es. push_each texts (found_in prefix (keys_of es))) (sym (is ∙ whole))
      where
        whole : take count (rows_from rows kind prefix from) ≡ rows_from rows kind prefix from
        whole =
            let long : length page ≡ min count (length (rows_from rows kind prefix from)) = ap length is
            ∙ length-take count (rows_from rows kind prefix from) in
            take_all count (rows_from rows kind prefix from) (omega (arith, long, short))

    -- after another the walk goes on past the last child
    pub walk_goes_on : 0 < length page → (t : Text) × EndsIn (push_each texts (found_in prefix (keys_of page))) t
        × (push_each texts (children_from from) ≡ push_each (push_each texts (found_in prefix (keys_of page)))
        (children_from (prefix ++ past t)))
    walk_goes_on some =
        let under = rows_under rows kind prefix in
        let found = rows_from rows kind prefix from in
        let kept : keys_of found ≡ filter (is_from from) (keys_of under) = keys_kept (is_from from) under in
        let split : filter (is_from from) (keys_of under) ≡ keys_of page ++ keys_of (drop count found) =
        sym kept ∙ ap keys_of (sym (take-append-drop count found)) ∙ map_append (take count found) (drop count found)
        ∙ ap (λ es. keys_of es ++ keys_of (drop count found)) (sym is) in
        let it = page_walked prefix (keys_of under) (keys_of page) (keys_of (drop count found)) texts from all_climb
        (begin_each (entries rows)) split
        (subst (λ n. 0 < n) (sym (length-map page (λ (e : RowKey × Row). e.0.1))) some) in (
          it.0,
          it.1.0,
          ap (λ ks. push_each texts (found_in prefix ks)) kept ∙ it.1.1
              ∙ sym (ap (λ ks. push_each (push_each texts (found_in prefix (keys_of page))) (found_in prefix ks))
              (keys_kept (is_from (prefix ++ past it.0)) under)),
        )
      where
        map_append : (xs ys : List (RowKey × Row)) → keys_of (xs ++ ys) ≡ keys_of xs ++ keys_of ys
        map_append [] ys = refl
        map_append (x ∷ xs) ys = ap (λ ks. x.0.1 ∷ ks) (map_append xs ys)
