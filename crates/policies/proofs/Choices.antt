-- The first pattern that is tried and named is the one of the best place.
use Rattle.std.specs.Prelude.{◌≡◌, ◌+◌, ◌==◌, ◌≤◌, ◌&&◌, ◌||◌, ◌⊎◌, ◌∷◌, if◌then◌else◌, nat_lt, ℕ, refl, List, [], Bool}
use Rattle.records.specs.Words.{list_any, fold, option_map_or, inl, inr, sym, ◌∙◌, ap, subst, arith, length, true}
use Rattle.records.specs.Words.{false, not, Some, or_parts, nat_tests, Text, Verb}
use Rattle.std.specs.List.{find}
use Rattle.policies.specs.Words.{Capability, Pattern, is_grant, is_deny, same_pattern, tried, Rule, Rules, is_named}
use Rattle.policies.specs.Words.{is_granted, allows, place, step, best_allows}
use Rattle.policies.proofs.Bests.{none, said_at, gives, refuses, Folded, folded}

-- ---- tests over rules

-- where no rule passes h, two tests that agree on the others agree
any_along : (p q h : Rule → Bool) → ((r : Rule) → h r ≡ false → p r ≡ q r) → (rs : List Rule) → list_any h rs ≡ false
    → list_any p rs ≡ list_any q rs
any_along p q h same [] absent = refl
any_along p q h same (r ∷ rs) absent =
    let parts = or_parts (h r) (list_any h rs) absent in
    λ i. same r parts.0 i || any_along p q h same rs parts.1 i

-- some rule has f at k, and none is above m
at_most : (f : Rule → ℕ) (h : Rule → Bool) (k m : ℕ) → ((r : Rule) → h r ≡ true → f r ≡ k) → (rs : List Rule)
    → list_any h rs ≡ true
    → list_any (λ r. nat_lt m (f r)) rs ≡ false → k ≤ m
at_most f h k m is [] some bound = absurd (cc)
at_most f h k m is (r ∷ rs) some bound =
    let parts = or_parts (nat_lt m (f r)) (list_any (λ r. nat_lt m (f r)) rs) bound in
    elim (h r) as (λ b. h r ≡ b → (b || list_any h rs) ≡ true → k ≤ m) [
      | true ↦ λ e _. subst (λ n. n ≤ m) (is r e) (not_above m (f r) parts.0)
      | false ↦ λ _ e. at_most f h k m is rs e parts.1
    ] refl some
  where
    not_above : (m n : ℕ) → nat_lt m n ≡ false → n ≤ m
    not_above m n e = grind (arith, nat_tests)

-- some rule has f at m, and f is at most k
no_more : (f : Rule → ℕ) (k m : ℕ) → ((r : Rule) → f r ≤ k) → (rs : List Rule) → list_any (λ r. f r == m) rs ≡ true
    → m ≤ k
no_more f k m most [] some = absurd (cc)
no_more f k m most (r ∷ rs) some =
    elim (f r == m) as (λ b. (f r == m) ≡ b → (b || list_any (λ r. f r == m) rs) ≡ true → m ≤ k) [
      | true ↦ λ e _. equal_most (f r) m k e (most r)
      | false ↦ λ _ e. no_more f k m most rs e
    ] refl some
  where
    equal_most : (n m k : ℕ) → (n == m) ≡ true → n ≤ k → m ≤ k
    equal_most n m k e h = grind (arith, nat_tests)

-- ---- places

abbrev placed : List Pattern → Rule → ℕ
placed ts r = place ts r.pattern

pub most_places : (ts : List Pattern) (p : Pattern) → place ts p ≤ length ts
most_places [] p = omega arith
most_places (t ∷ ts) p = elim (same_pattern p t) as (λ b. (if b then length ts + 1
    else place ts p) ≤ length (t ∷ ts)) [ true ↦ omega arith | false ↦ omega (arith, most_places ts p) ]

first_place : (t : Pattern) (ts : List Pattern) (p : Pattern) → same_pattern p t ≡ true
    → place (t ∷ ts) p ≡ length ts + 1
first_place t ts p e = rw e refl

later_place : (t : Pattern) (ts : List Pattern) (p : Pattern) → same_pattern p t ≡ false → place (t ∷ ts) p ≡ place ts p
later_place t ts p e = rw e refl

is_first : (t : Pattern) (ts : List Pattern) (p : Pattern) → (place (t ∷ ts) p == (length ts + 1)) ≡ same_pattern p t
is_first t ts p =
    elim (same_pattern p t) as (λ b. ((if b then length ts + 1 else place ts p) == (length ts + 1)) ≡ b) [
      | true ↦ grind (arith, nat_tests)
      | false ↦ less (place ts p) (length ts) (most_places ts p)
    ]
  where
    less : (n m : ℕ) → n ≤ m → (n == (m + 1)) ≡ false
    less n m h = grind (arith, nat_tests)

-- ---- the pattern that counts

module _ (c : Capability) (rs : List Rule) where
  abbrev judged : (Rule → ℕ) → ℕ → Bool
  judged f m = nat_lt 0 m && (list_any (λ r. (f r == m) && list_any (is_grant c) r.words) rs
      && not (list_any (λ r. (f r == m) && list_any is_deny r.words) rs))

  abbrev reached_by : (Rule → ℕ) → ℕ → Type 0
  reached_by f m = (m ≡ 0) ⊎ (list_any (λ r. f r == m) rs ≡ true)

  pub first_named : (ts : List Pattern) (m : ℕ) → list_any (λ r. nat_lt m (placed ts r)) rs ≡ false
      → reached_by (placed ts) m
      → judged (placed ts) m ≡ option_map_or (is_granted c rs) (find (is_named rs) ts) false
  first_named [] m bound reached =
      let zero_is : m ≡ 0 =
      elim reached [ inl e ↦ e | inr e ↦ omega (arith, no_more (placed []) 0 m (λ r. omega arith) rs e) ] in
      rw zero_is refl
  first_named (t ∷ ts) m bound reached =
      elim (is_named rs t) as (λ b. is_named rs t ≡ b
      → judged (placed (t ∷ ts)) m ≡ option_map_or (is_granted c rs) (if b then Some t
      else find (is_named rs) ts) false) [
        | true ↦ λ e.
            let low : length ts + 1 ≤ m = at_most (placed (t ∷ ts)) (λ r. same_pattern r.pattern t) (length ts + 1) m
            (λ r h. first_place t ts r.pattern h) rs e bound in
            let high : m ≤ length ts + 1 = elim reached [
              | inl z ↦ omega arith
              | inr s ↦ no_more (placed (t ∷ ts)) (length ts + 1) m (λ r. omega
                  (arith, most_places (t ∷ ts) r.pattern)) rs s
            ] in
            let is : m ≡ length ts + 1 = omega arith in
            rw is (λ i. positive (length ts) i
            && (list_any (λ r. is_first t ts r.pattern i && list_any (is_grant c) r.words) rs && not (list_any
            (λ r. is_first t ts r.pattern i && list_any is_deny r.words) rs)))
        | false ↦ λ e.
            let along = λ (p q : Rule → Bool) (same : (r : Rule) → same_pattern r.pattern t ≡ false
            → p r ≡ q r). any_along p q (λ r. same_pattern r.pattern t) same rs e in
            let bound1 : list_any (λ r. nat_lt m (placed ts r)) rs ≡ false =
            sym (along (λ r. nat_lt m (placed (t ∷ ts) r)) (λ r. nat_lt m
            (placed ts r)) (λ r h. ap (λ n. nat_lt m n) (later_place t ts r.pattern h))) ∙ bound in
            let reached1 : reached_by (placed ts) m = elim reached [
              | inl z ↦ inl z
              | inr s ↦ inr (sym (along (λ r. placed (t ∷ ts) r == m) (λ r. placed ts r == m)
                  (λ r h. ap (λ n. n == m) (later_place t ts r.pattern h))) ∙ s)
            ] in
            (λ i. nat_lt 0 m && (along (λ r. (placed (t ∷ ts) r == m) && list_any (is_grant c) r.words)
            (λ r. (placed ts r == m) && list_any
            (is_grant c) r.words)
            (λ r h. ap (λ n. (n == m) && list_any (is_grant c) r.words) (later_place t ts r.pattern h)) i
            && not (along (λ r. (placed (t ∷ ts) r == m) && list_any is_deny r.words)
            (λ r. (placed ts r == m) && list_any is_deny r.words) (λ r h. ap
            (λ n. (n == m) && list_any is_deny r.words) (later_place t ts r.pattern h)) i)))
            ∙ first_named ts m bound1 reached1
      ] refl
    where
      positive : (n : ℕ) → nat_lt 0 (n + 1) ≡ true
      positive n = grind (arith, nat_tests)

-- ---- what the code finds out

pub best_is : (v : Verb) (path : Text) (c : Capability) (rs : List Rule)
    → best_allows (fold (step v path c) none rs) ≡ option_map_or (is_granted c rs)
    (find (is_named rs) (tried v path)) false
best_is v path c rs =
    let f : Rule → ℕ = placed (tried v path) in
    let b = fold (step v path c) none rs in
    let is : Folded c f none rs b = folded c f none rs in
    (λ i. nat_lt 0 b.place
    && (clean b.place (list_any (said_at c f b.place (gives c f)) rs) is.granted i && not (clean b.place (list_any
    (said_at c f b.place (refuses c f)) rs) is.denied i)))
    ∙ first_named c rs (tried v path) b.place is.bound is.reached
  where
    clean : (m : ℕ) (x : Bool) {y : Bool} → y ≡ (((0 == m) && false) || x) → y ≡ x
    clean m x e = e ∙ elim (0 == m) as (λ b. ((b && false) || x) ≡ x) [ true ↦ refl | false ↦ refl ]

pub allowed : (rs : Rules) (path : Text) (c : Capability) → rs.is_root ≡ false
    → best_allows (fold (step rs.verb path c) none rs.rules) ≡ allows rs path c
unfolding allows
allowed rs path c e = rw e (best_is rs.verb path c rs.rules)

pub as_root : (rs : Rules) (path : Text) (c : Capability) → rs.is_root ≡ true → true ≡ allows rs path c
unfolding allows
as_root rs path c e = rw e refl
