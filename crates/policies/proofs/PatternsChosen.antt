-- Which pattern is chosen: that of a rule, an exact one or the longest prefix.
use Rattle.std.proofs.Common.{◌≡◌, ◌≢◌, ◌+◌, ◌≤◌, ◌<◌, ◌⊎◌, ◌∷◌, if◌then◌else◌, nat_eq, is_some, ℕ, inl, inr, refl, sym}
use Rattle.std.specs.List.{find}
use Rattle.records.specs.Words.{starts_with, ◌∙◌, ap, subst, arith, List, [], length, Bool, true, false, cond, Some}
use Rattle.records.specs.Words.{false≢true, none-some, same_Some, Text, same, same_self, same_true, Verb}
use Rattle.broker_types.specs.declared.ask.Verb.TheVariants as verb
use Rattle.policies.specs.Words.{Pattern, Exact, Prefix, is_named, chosen, IsLongest, same_pattern, with_slash, tried}
use Rattle.policies.specs.Words.{place, exact_place, tried_text, Rules}
use Rattle.policies.proofs.Choices.{most_places}
use Rattle.policies.proofs.PlaceLemmas.{exact_placed, prefix_placed}

itself : (p : Pattern) → same_pattern p p ≡ true
itself (Exact s) = same_self s
itself (Prefix s) = same_self s

one_pattern : (p q : Pattern) → same_pattern p q ≡ true → p ≡ q
one_pattern (Exact s) (Exact t) h = ap Exact (same_true s t h)
one_pattern (Prefix s) (Prefix t) h = ap Prefix (same_true s t h)
one_pattern (Exact s) (Prefix t) h = absurd (false≢true h)
one_pattern (Prefix s) (Exact t) h = absurd (false≢true h)

first_place : (x : Pattern) (xs : List Pattern) → place (x ∷ xs) x ≡ length xs + 1
first_place x xs = ap (λ b. if b then length xs + 1 else place xs x) (itself x)

no_earlier : (x : Pattern) (xs : List Pattern) (t : Pattern) → place xs t ≤ place (x ∷ xs) t
no_earlier x xs t = elim (same_pattern t x) as (λ b. place xs t ≤ (if b then length xs + 1 else place xs t)) [
  | true ↦ omega (arith, most_places xs t)
  | false ↦ omega arith
]

later : (x : Pattern) (xs : List Pattern) (u : Pattern) (test : Pattern → Bool) → test u ≡ true → test x ≡ false
    → place (x ∷ xs) u ≡ place xs u
later x xs u test passes fails = elim (same_pattern u x) as
    (λ b. same_pattern u x ≡ b → (if b then length xs + 1 else place xs u) ≡ place xs u) [
      | true ↦ λ is. absurd (false≢true (sym fails ∙ ap test (sym (one_pattern u x is)) ∙ passes))
      | false ↦ λ _. refl
    ] refl

-- what is found first has the greatest place
greatest : (test : Pattern → Bool) (ts : List Pattern) (t u : Pattern) → find test ts ≡ Some t → test u ≡ true
    → place ts u ≤ place ts t
greatest test [] t u found passes = absurd (none-some _ found)
greatest test (x ∷ xs) t u found passes =
    elim (test x) as (λ b. test x ≡ b → cond b (Some x) (find test xs) ≡ Some t → place (x ∷ xs) u ≤ place (x ∷ xs) t) [
      | true ↦ λ _ here.
          let is : place (x ∷ xs) t ≡ length xs + 1 = ap (place (x ∷ xs)) (sym (same_Some _ _ here))
          ∙ first_place x xs in
          let most : place (x ∷ xs) u ≤ length (x ∷ xs) = most_places (x ∷ xs) u in
          omega (arith, is, most)
      | false ↦ λ fails there.
          let below : place xs u ≤ place xs t = greatest test xs t u there passes in
          let step : place xs t ≤ place (x ∷ xs) t = no_earlier x xs t in
          let same : place (x ∷ xs) u ≡ place xs u = later x xs u test passes fails in
          omega (arith, below, step, same)
    ] refl found

-- and a place
has_place : (test : Pattern → Bool) (ts : List Pattern) (t : Pattern) → find test ts ≡ Some t → 0 < place ts t
has_place test [] t found = absurd (none-some _ found)
has_place test (x ∷ xs) t found =
    elim (test x) as (λ b. cond b (Some x) (find test xs) ≡ Some t → 0 < place (x ∷ xs) t) [
      | true ↦ λ here.
          let is : place (x ∷ xs) t ≡ length xs + 1 = ap (place (x ∷ xs)) (sym (same_Some _ _ here))
          ∙ first_place x xs in
          omega (arith, is)
      | false ↦ λ there.
          let first : 0 < place xs t = has_place test xs t there in
          let step : place xs t ≤ place (x ∷ xs) t = no_earlier x xs t in
          omega (arith, first, step)
    ] found

-- what is found passes
found_passes : (test : Pattern → Bool) (ts : List Pattern) (t : Pattern) → find test ts ≡ Some t → test t ≡ true
found_passes test [] t found = absurd (none-some _ found)
found_passes test (x ∷ xs) t found =
    elim (test x) as (λ b. test x ≡ b → cond b (Some x) (find test xs) ≡ Some t → test t ≡ true) [
      | true ↦ λ passes here. ap test (sym (same_Some _ _ here)) ∙ passes
      | false ↦ λ _ there. found_passes test xs t there
    ] refl found

-- and where what has a place passes, something is found
finds : (test : Pattern → Bool) (ts : List Pattern) (u : Pattern) → test u ≡ true → 0 < place ts u
    → is_some (find test ts) ≡ true
finds test [] u passes placed = absurd (omega (arith, placed))
finds test (x ∷ xs) u passes placed =
    elim (test x) as (λ b. test x ≡ b → is_some (cond b (Some x) (find test xs)) ≡ true) [
      | true ↦ λ _. refl
      | false ↦ λ fails.
          let same : place (x ∷ xs) u ≡ place xs u = later x xs u test passes fails in
          let left : 0 < place xs u = omega (arith, placed, same) in
          finds test xs u passes left
    ] refl

pub chosen_named : (rs : Rules) (path : Text) (p : Pattern) → chosen rs path ≡ Some p → is_named rs.rules p ≡ true
chosen_named rs path p is = found_passes (is_named rs.rules) (tried rs.verb path) p is

pub prefix_found : (rs : Rules) (path prefix : Text) → is_named rs.rules (Prefix prefix) ≡ true
    → starts_with nat_eq (tried_text rs.verb path) prefix ≡ true → is_some (chosen rs path) ≡ true
prefix_found rs path prefix named begins =
    let is : place (tried rs.verb path) (Prefix prefix) ≡ length prefix + 1 =
    prefix_placed rs.verb path prefix ∙ ap (λ b. if b then length prefix + 1 else 0) begins in
    let placed : 0 < place (tried rs.verb path) (Prefix prefix) = omega (arith, is) in
    finds (is_named rs.rules) (tried rs.verb path) (Prefix prefix) named placed

module _ (rs : Rules) (path prefix : Text) (is : chosen rs path ≡ Some (Prefix prefix)) where
  begins_with : starts_with nat_eq (tried_text rs.verb path) prefix ≡ true
  begins_with =
      elim (starts_with nat_eq (tried_text rs.verb path) prefix) as
      (λ b. (0 < (if b then length prefix + 1 else 0)) → b ≡ true) [
        | true ↦ λ _. refl
        | false ↦ λ h. absurd (omega (arith, h))
      ] (subst_less (has_place (is_named rs.rules) (tried rs.verb path) (Prefix prefix) is)
      (prefix_placed rs.verb path prefix))
    where
      subst_less : {n m : ℕ} → 0 < n → n ≡ m → 0 < m
      subst_less h e = omega (arith, h, e)

  longest : (other : Text) → is_named rs.rules (Prefix other) ≡ true
      → starts_with nat_eq (tried_text rs.verb path) other ≡ true
      → length other ≤ length prefix
  longest other named begins =
      let low : place (tried rs.verb path) (Prefix other) ≤ place (tried rs.verb path) (Prefix prefix) =
      greatest (is_named rs.rules) (tried rs.verb path) (Prefix prefix) (Prefix other) is named in
      let one : place (tried rs.verb path) (Prefix other) ≡ length other + 1 =
      prefix_placed rs.verb path other ∙ ap (λ b. if b then length other + 1 else 0) begins in
      let two : place (tried rs.verb path) (Prefix prefix) ≡ length prefix + 1 =
      prefix_placed rs.verb path prefix ∙ ap (λ b. if b then length prefix + 1 else 0) begins_with in
      omega (arith, low, one, two)

  pub is_longest : IsLongest rs path prefix
  is_longest = record { matches = begins_with; longest = longest }

-- ---- exact patterns

pub exact_first : (rs : Rules) (path : Text) → rs.verb ≢ verb.List → is_named rs.rules (Exact path) ≡ true
    → chosen rs path ≡ Some (Exact path)
exact_first rs path other named =
    elim rs.verb as (λ v. (v ≢ verb.List) → find (is_named rs.rules) (tried v path) ≡ Some (Exact path)) [
      | verb.Get ↦ λ _. rw named refl
      | verb.List ↦ λ n. absurd (n refl)
      | verb.Write ↦ λ _. rw named refl
      | verb.Delete ↦ λ _. rw named refl
    ] other

pub folder_first : (rs : Rules) (path : Text) → rs.verb ≡ verb.List → is_named rs.rules (Exact (with_slash path)) ≡ true
    → chosen rs path ≡ Some (Exact (with_slash path))
folder_first rs path is named = ap (λ v. find (is_named rs.rules) (tried v path)) is ∙ rw named refl

pub then_path : (rs : Rules) (path : Text) → rs.verb ≡ verb.List → is_named rs.rules (Exact (with_slash path)) ≡ false
    → is_named rs.rules (Exact path) ≡ true → chosen rs path ≡ Some (Exact path)
then_path rs path is none named = ap (λ v. find (is_named rs.rules) (tried v path)) is ∙ rw none (rw named refl)

-- what one text is, if it is the path
same_path : (path text : Text) → 0 < (if same text path then length path + 2 else 0) → text ≡ path
same_path path text placed =
    elim (same text path) as (λ b. same text path ≡ b → (0 < (if b then length path + 2 else 0)) → text ≡ path) [
      | true ↦ λ is _. same_true text path is
      | false ↦ λ _ none. absurd (omega (arith, none))
    ] refl placed

-- and what it is if it is the path or its folder
same_either : (path text : Text)
    → 0 < (if same text (with_slash path) then length path + 4 else (if same text path then length path + 3 else 0))
    → (text ≡ path) ⊎ (text ≡ with_slash path)
same_either path text placed =
    elim (same text (with_slash path)) as (λ b. same text (with_slash path) ≡ b
    → (0 < (if b then length path + 4 else (if same text path then length path + 3 else 0)))
    → (text ≡ path) ⊎ (text ≡ with_slash path)) [
      | true ↦ λ is _. inr (same_true text (with_slash path) is)
      | false ↦ λ _.
          elim (same text path) as (λ b. same text path ≡ b → (0 < (if b then length path + 3 else 0))
          → (text ≡ path) ⊎ (text ≡ with_slash path)) [
            | true ↦ λ is _. inl (same_true text path is)
            | false ↦ λ _ none. absurd (omega (arith, none))
          ] refl
    ] refl placed

exact_text : (v : Verb) (path text : Text) → 0 < exact_place v path text
    → (text ≡ path) ⊎ ((v ≡ verb.List) × (text ≡ with_slash path))
exact_text verb.Get path text placed = inl (same_path path text placed)
exact_text verb.Write path text placed = inl (same_path path text placed)
exact_text verb.Delete path text placed = inl (same_path path text placed)
exact_text verb.List path text placed =
    elim (same_either path text placed) [ inl is ↦ inl is | inr is ↦ inr (refl, is) ]

pub own_path : (rs : Rules) (path text : Text) → chosen rs path ≡ Some (Exact text)
    → (text ≡ path) ⊎ ((rs.verb ≡ verb.List) × (text ≡ with_slash path))
own_path rs path text is =
    exact_text rs.verb path text
    (subst (λ n. 0 < n) (exact_placed rs.verb path text)
    (has_place (is_named rs.rules) (tried rs.verb path) (Exact text) is))
