-- A folder with something below it has children.
use Rattle.std.proofs.Common.{◌≡◌, ◌≢◌, ◌⊎◌, ◌||◌, ◌∷◌, if◌then◌else◌, List, [], Bool, true, false, Option, Some, None}
use Rattle.broker_model.specs.Words.{drop, filter, ℕ, is_some, length, map, nat_eq, contains_key-keys, list_any}
use Rattle.broker_model.specs.Words.{starts_with, refl, sym, ◌∙◌, ap, inl, inr, false≢true, or_cases, or_right, Text}
use Rattle.broker_model.specs.Words.{same, same-text_cmp, same_self, same_true, Map, get, keys, below, child, children}
use Rattle.broker_model.specs.Words.{has, has_set, are_none}

-- a text with a byte is not empty
pub no_cons : (c : ℕ) (t : Text) → c ∷ t ≡ [] → ⊥
no_cons c t e = cc

-- what the map has is among its keys
is_key : {X : Type 0} (m : Map X) (q : Text) → get m q ≢ None → has (keys m) q ≡ true
is_key m q some = (λ i. list_any (λ t. same-text_cmp q t i) (keys m)) ∙ sym (contains_key-keys m q) ∙ by (get m q) some
  where
    by : {X : Type 0} (o : Option X) → o ≢ None → is_some o ≡ true
    by None none = absurd (none refl)
    by (Some x) none = refl

-- what begins with the prefix gives a child
module _ (prefix q : Text) (begins : starts_with nat_eq q prefix ≡ true) where
  abbrev cut : Text → Text
  cut u = child (drop (length prefix) u)

  abbrev kept : List Text → List Text
  kept ts = filter (λ u. starts_with nat_eq u prefix) ts

  gives_child : (texts : List Text) → has texts q ≡ true → has (map child (below prefix texts)) (cut q) ≡ true
  gives_child [] there = absurd (false≢true there)
  gives_child (t ∷ ts) there =
      by (starts_with nat_eq t prefix) refl (or_cases (same q t) (has ts q) there) (gives_child ts)
    where
      by : (v : Bool) → starts_with nat_eq t prefix ≡ v → (same q t ≡ true) ⊎ (has ts q ≡ true)
          → (has ts q ≡ true → has (map child (map (drop (length prefix)) (kept ts))) (cut q) ≡ true)
          → has (map child (map (drop (length prefix)) (if v then t ∷ kept ts else kept ts))) (cut q) ≡ true
      by true passes (inl here) later =
          ap (λ v. v || has (map child (map (drop (length prefix)) (kept ts))) (cut q))
          (ap (λ u. same (cut q) (cut u)) (sym (same_true q t here)) ∙ same_self (cut q))
      by true passes (inr there) later =
          or_right (same (cut q) (cut t)) (has (map child (map (drop (length prefix)) (kept ts))) (cut q)) (later there)
      by false fails (inl here) later =
          absurd (false≢true (sym fails ∙ ap (λ u. starts_with nat_eq u prefix) (sym (same_true q t here)) ∙ begins))
      by false fails (inr there) later = later there

-- so there are some
pub has_children : {X : Type 0} (m : Map X) (prefix q : Text) → get m q ≢ None → starts_with nat_eq q prefix ≡ true
    → are_none (children prefix (keys m)) ≡ false
has_children m prefix q some begins =
    by (children prefix (keys m)) (has_set (map child (below prefix (keys m))) (child (drop (length prefix) q))
    ∙ gives_child prefix q begins (keys m) (is_key m q some))
  where
    by : (ts : List Text) → has ts (child (drop (length prefix) q)) ≡ true → are_none ts ≡ false
    by [] there = absurd (false≢true there)
    by (t ∷ ts) there = refl
