-- Identifiers that are new, and those that are given out.
use Rattle.std.proofs.Common.{◌≡◌, ◌≢◌, ◌⊎◌, ◌&&◌, ◌||◌, ◌∷◌, List, [], true, false, not, cond, Some, None, is_none, ap}
use Rattle.records.specs.Words.{⊤, list_any, refl, sym, ◌∙◌, subst, inl, inr, false≢true, and_parts, not-true, or_parts}
use Rattle.records.specs.Words.{Text, same, same_self, same_true, Broker, Map, get, get-put, Done, is_nothing, are_new}
use Rattle.records.specs.Words.{use_up}

-- what is new stays new, if others are given out
pub new_still : (used : Map ⊤) (i : Text) (others : List Text) → get used i ≡ None → list_any (same i) others ≡ false
    → get (use_up used others) i ≡ None
new_still used i [] none apart = none
new_still used i (k ∷ others) none apart =
    let two = or_parts (same i k) (list_any (same i) others) apart in
    get-put (use_up used others) k tt i ∙ ap (λ v. cond v (Some tt) (get (use_up used others) i)) two.0
    ∙ new_still used i others none two.1

-- what is new beside an operation's own identifiers is new after it, whether it gave them out or none
pub new_after : (b : Broker) (own : List Text) (d : Done) → d.next.used ≡ b.used → (d.taken ≡ []) ⊎ (d.taken ≡ own)
    → (i : Text) → get b.used i ≡ None → list_any (same i) own ≡ false → get (use_up d.next.used d.taken) i ≡ None
new_after b own d used taken i none apart =
    let here : get d.next.used i ≡ None = ap (λ (m : Map ⊤). get m i) used ∙ none in
    elim taken [
      | inl nobody ↦ subst (λ l. get (use_up d.next.used l) i ≡ None) (sym nobody) here
      | inr all ↦ subst (λ l. get (use_up d.next.used l) i ≡ None) (sym all) (new_still d.next.used i own here apart)
    ]

-- two new identifiers, neither of which is among others
pub record AreTwo (used : Map ⊤) (i j : Text) (others : List Text) : Type 0 where
  pub one : get used i ≡ None
  pub two : get used j ≡ None
  pub differ : i ≢ j
  pub one_apart : list_any (same i) others ≡ false
  pub two_apart : list_any (same j) others ≡ false

-- the first two of new identifiers
pub two_of : (used : Map ⊤) (i j : Text) (others : List Text) → are_new used (i ∷ j ∷ others) ≡ true
    → AreTwo used i j others
two_of used i j others new =
    let outer = and_parts (is_none (get used i)) _ new in
    let first = and_parts (not (same i j || list_any (same i) others)) _ outer.1 in
    let inner = and_parts (is_none (get used j)) _ first.1 in
    let second = and_parts (not (list_any (same j) others)) _ inner.1 in
    let apart = or_parts (same i j) (list_any (same i) others) (not-true _ first.0) in
    record {
      one = is_nothing (get used i) outer.0;
      two = is_nothing (get used j) inner.0;
      differ = λ e. false≢true (sym apart.0 ∙ ap (same i) (sym e) ∙ same_self i);
      one_apart = apart.1;
      two_apart = not-true _ second.0;
    }

-- ---- one of many

-- the first of a list is in it
pub first_in : (i : Text) (is : List Text) → list_any (same i) (i ∷ is) ≡ true
first_in i is = ap (λ v. v || list_any (same i) is) (same_self i)

-- and so is what comes later
pub later_in : (i j : Text) (is : List Text) → list_any (same i) is ≡ true → list_any (same i) (j ∷ is) ≡ true
later_in i j is h = elim (same i j) as (λ v. (v || list_any (same i) is) ≡ true) [ true ↦ refl | false ↦ h ]

-- one of new identifiers is new
pub member_new : (m : Map ⊤) (is : List Text) (i : Text) → are_new m is ≡ true → list_any (same i) is ≡ true
    → get m i ≡ None
member_new m [] i new among = absurd (false≢true among)
member_new m (j ∷ js) i new among =
    let p = and_parts (is_none (get m j)) (not (list_any (same j) js) && are_new m js) new in
    elim (same i j) as (λ v. same i j ≡ v → (v || list_any (same i) js) ≡ true → get m i ≡ None) [
      | true ↦ λ e _. ap (get m) (same_true i j e) ∙ is_nothing (get m j) p.0
      | false ↦ λ _ rest. member_new m js i (and_parts (not (list_any (same j) js)) (are_new m js) p.1).1 rest
    ] refl among
