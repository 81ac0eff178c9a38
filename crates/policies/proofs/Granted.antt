-- Laws of what policies grant.
use Rattle.std.proofs.Common.{◌≡◌, ◌∷◌, ◌++◌, ◌&&◌, ◌||◌, List, [], Bool, true, false, not, Some, None, flat_map, refl}
use Rattle.records.specs.Words.{unwrap_or, option_and_then, list_any, option_map_or, sym, ◌∙◌, ap, IsPermutation}
use Rattle.records.specs.Words.{and_parts, and_from, or_right, false≢true, not-true, false_from_ne_true}
use Rattle.records.specs.Words.{list_any-append, list_any-IsPermutation, Map, get, Text, same, same_self, Verb, has}
use Rattle.records.specs.Words.{any_found, any_from}
use Rattle.std.specs.List.{find}
use Rattle.policies.specs.Words.{Capability, Pattern, chosen, is_said, is_granted, allows, rules_named, rules_of}
use Rattle.policies.specs.Words.{grants, Says, IsGranted, same_pattern, tried, is_root, policy_of, Rule, is_grant}
use Rattle.policies.specs.Words.{is_deny}
use Rattle.policies.specs.declared.capability.Word.{Word}

any_flat : {X Y : Type 0} (p : Y → Bool) (f : X → List Y) (xs : List X)
    → list_any p (flat_map f xs) ≡ list_any (λ x. list_any p (f x)) xs
any_flat p f [] = refl
any_flat p f (x ∷ xs) = list_any-append p (f x) (flat_map f xs) ∙ ap (λ b. list_any p (f x) || b) (any_flat p f xs)

-- ---- what is said by one of a caller's policies

module _ (policies : Map Text) (names : List Text) where
  abbrev said_here : (Word → Bool) → Pattern → Text → Bool
  said_here word pattern name = is_said word (rules_named policies name) pattern

  said_by_one : (word : Word → Bool) (pattern : Pattern)
      → is_said word (flat_map (rules_named policies) names) pattern ≡ list_any (said_here word pattern) names
  said_by_one word pattern = any_flat (λ (r : Rule). same_pattern r.pattern pattern && list_any word r.words)
      (rules_named policies) names

  says : (word : Word → Bool) (pattern : Pattern) → is_said word (flat_map (rules_named policies) names) pattern ≡ true
      → Says policies names word pattern
  says word pattern h =
      let s = any_found (said_here word pattern) names (sym (said_by_one word pattern) ∙ h) in
      record { name = s.0; of_caller = s.1; said = s.2 }

  said_of : (word : Word → Bool) (pattern : Pattern) → Says policies names word pattern
      → is_said word (flat_map (rules_named policies) names) pattern ≡ true
  said_of word pattern s = said_by_one word pattern ∙ any_from (said_here word pattern) names s.name s.of_caller s.said

module _ (policies : Map Text) (names : List Text) (v : Verb) (path : Text) (c : Capability) where
  pub only_granted : list_any is_root names ≡ false → grants policies names v path c ≡ true
      → IsGranted policies names v path c
  unfolding allows rules_of
  only_granted e h =
      let rules = flat_map (rules_named policies) names in
      elim (chosen (rules_of policies names v) path) as (λ o. chosen (rules_of policies names v) path ≡ o
      → option_map_or (is_granted c rules) o false ≡ true → IsGranted policies names v path c) [
        | None ↦ λ _ g. absurd (false≢true g)
        | Some p ↦ λ is g.
            let parts = and_parts (is_said (is_grant c) rules p) (not (is_said is_deny rules p)) g in
            record {
              pattern = p;
              is_chosen = is;
              said = says policies names (is_grant c) p parts.0;
              not_denied = λ s. false≢true (sym (not-true (is_said is_deny rules p) parts.1)
                  ∙ said_of policies names is_deny p s);
            }
      ] refl (sym (ap (λ b. b || option_map_or (is_granted c rules) (chosen (rules_of policies names v) path) false) e)
      ∙ h)

  pub all_granted : IsGranted policies names v path c → grants policies names v path c ≡ true
  unfolding allows rules_of
  all_granted g =
      let rules = flat_map (rules_named policies) names in
      let denied : is_said is_deny rules g.pattern ≡ false =
      false_from_ne_true _ (λ h. g.not_denied (says policies names is_deny g.pattern h)) in
      or_right (list_any is_root names) _
      (ap (λ o. option_map_or (is_granted c rules) o false) g.is_chosen
      ∙ and_from _ _ (said_of policies names (is_grant c) g.pattern g.said) (ap not denied))

  pub root_may : list_any is_root names ≡ true → grants policies names v path c ≡ true
  unfolding allows rules_of
  root_may e = ap (λ b. b || option_map_or (is_granted c (flat_map (rules_named policies) names))
      (chosen (rules_of policies names v) path) false) e

find_none : {X : Type 0} (xs : List X) → find (λ _. false) xs ≡ None
find_none [] = refl
find_none (x ∷ xs) = find_none xs

pub nothing_without : (policies : Map Text) (v : Verb) (path : Text) (c : Capability)
    → grants policies [] v path c ≡ false
unfolding allows rules_of
nothing_without policies v path c = rw (find_none (tried v path)) refl

-- ---- the order of policies

module _ (policies : Map Text) (names others : List Text) (moved : IsPermutation names others) where
  any_moved : (p : Rule → Bool) → list_any p (flat_map (rules_named policies) names)
      ≡ list_any p (flat_map (rules_named policies) others)
  any_moved p =
      any_flat p (rules_named policies) names
      ∙ list_any-IsPermutation (λ n. list_any p (rules_named policies n)) names others moved
      ∙ sym (any_flat p (rules_named policies) others)

  pub any_order : (v : Verb) (path : Text) (c : Capability)
      → grants policies names v path c ≡ grants policies others v path c
  unfolding allows rules_of
  any_order v path c = λ i.
      list_any-IsPermutation is_root names others moved i
      || option_map_or (λ p. any_moved (λ (r : Rule). same_pattern r.pattern p && list_any (is_grant c) r.words) i
      && not (any_moved (λ (r : Rule). same_pattern r.pattern p && list_any is_deny r.words) i))
      (find (λ p. any_moved (λ (r : Rule). same_pattern r.pattern p) i) (tried v path)) false

-- ---- policies of others, and policies that are not there

rules_along : (f g : Text → List Rule) (names : List Text) → ((n : Text) → has names n ≡ true → f n ≡ g n)
    → flat_map f names ≡ flat_map g names
rules_along f g [] agree = refl
rules_along f g (n ∷ ns) agree = λ i.
    agree n (ap (λ b. b || has ns n) (same_self n)) i ++ rules_along f g ns
    (λ m h. agree m (or_right (same m n) (has ns m) h)) i

unchanged : (policies changed : Map Text) (n : Text) → get changed n ≡ get policies n
    → rules_named changed n ≡ rules_named policies n
unfolding rules_named
unchanged policies changed n e = ap (λ o. unwrap_or (option_and_then policy_of o) []) e

pub others_are_free : (policies changed : Map Text) (names : List Text) (v : Verb) (path : Text) (c : Capability)
    → ((name : Text) → has names name ≡ true → get changed name ≡ get policies name)
    → grants changed names v path c ≡ grants policies names v path c
unfolding rules_of
others_are_free policies changed names v path c agree = λ i.
    allows (record {
      verb = v;
      is_root = list_any is_root names;
      rules = rules_along (rules_named changed) (rules_named policies) names
          (λ n h. unchanged policies changed n (agree n h)) i;
    }) path c

no_rules : (policies : Map Text) (name : Text) → get policies name ≡ None → rules_named policies name ≡ []
unfolding rules_named
no_rules policies name e = ap (λ o. unwrap_or (option_and_then policy_of o) []) e

pub absent_grant_nothing : (policies : Map Text) (name : Text) (names : List Text) (v : Verb) (path : Text)
    (c : Capability)
    → get policies name ≡ None → is_root name ≡ false
    → grants policies (name ∷ names) v path c ≡ grants policies names v path c
unfolding rules_of
absent_grant_nothing policies name names v path c none free = λ i.
    allows (record {
      verb = v;
      is_root = free i || list_any is_root names;
      rules = no_rules policies name none i ++ flat_map (rules_named policies) names;
    }) path c
