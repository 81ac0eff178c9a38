-- A root token that is made now: its row can be kept, and it may be made.
use Rattle.std.proofs.Common.{◌≡◌, ◌≢◌, ◌≤◌, ◌<◌, ◌^◌, ◌==◌, ◌||◌, ◌&&◌, ◌∷◌, if◌then◌else◌, ℕ, List, [], Bool, true}
use Rattle.std.proofs.Common.{false, cond, not, is_none, Some, None, codes, refl, sym, ◌∙◌, ap, subst, lit<}
use Rattle.std.specs.List.{find}
use Rattle.broker_model.specs.Words.{false≢true, and_parts, none-some, same_Some, is_nothing, same_self}
use Rattle.broker_model.specs.Words.{first_new, Text}
use Rattle.broker_model.specs.Words.{text_cmp, same, get, empty, entries, entries-empty, id, token_text, root_token}
use Rattle.broker_model.specs.Words.{first_broker, first_sound, first_policy, greatest_moment, Broker}
use Rattle.broker_model.specs.Words.{Sound, IsIdentifier}
use Rattle.broker_model.specs.Words.{IsSoundToken, MayBeMade, TokenEntry, token_entry, forms, are_new, IsTokenInRange}
use Rattle.records.specs.Words.{token_in_range}
use Rattle.broker_types.specs.Names.{token_word, accessor_word}
use Rattle.broker_types.specs.MapLaws.{get-put_self}
use Rattle.broker_types.specs.declared.words.Words.{Words}
use Rattle.maintenance.specs.NewRoot.{root_identifiers, root_text}

-- ---- its row

-- what the row of a root token says
abbrev root_says : Text → List Text → ℕ → List (Text × Text) → TokenEntry
root_says accessor policies issued meta = record {
  parent = None;
  accessor = accessor;
  policies = policies;
  issued = issued;
  ends = None;
  ttl = 0;
  explicit_max_ttl = 0;
  period = 0;
  uses_left = None;
  meta = meta;
}

pub root_entry : (now : ℕ) (accessor acc : Text) (policies : List Text) (issued : ℕ) (meta : List (Text × Text))
    → acc ≡ accessor → policies ≡ codes "root" ∷ [] → issued ≡ now → meta ≡ []
    → root_says acc policies issued meta ≡ token_entry (root_token now accessor)
root_entry now accessor acc policies issued meta a p s m =
    let none : entries (empty {X = Text} {R = text_cmp}) ≡ [] = entries-empty in
    λ i. root_says (a i) (p i) (s i) ((m ∙ sym none) i)

-- ---- it can be kept

-- a word that is not w
abbrev other : ℕ → ℕ
other w = if w == 0 then 1 else 0

other_differs : (w : ℕ) → other w ≢ w
other_differs w e =
    elim (w == 0) as (λ v. (w == 0) ≡ v → (if v then 1 else 0) ≡ w → ⊥) [
      | true ↦ λ zero one. false≢true (ap (λ n. n == 0) one ∙ zero)
      | false ↦ λ more zero. false≢true (sym more ∙ ap (λ n. n == 0) (sym zero))
    ] refl e

other_fits : (w : ℕ) → other w < 2 ^ 128
other_fits w = by (w == 0)
  where
    by : (v : Bool) → (if v then 1 else 0) < 2 ^ 128
    by true = lit< tt
    by false = lit< tt

pub root_in_range : (now : ℕ) (accessor : Text) → now ≤ greatest_moment → IsIdentifier accessor
    → IsTokenInRange (token_entry (root_token now accessor))
root_in_range now accessor within good =
    let w = good.0 in
    let first = first_broker now (other w) w in
    let sound = first_sound forms now (other w) w within (other_fits w) good.1 (other_differs w) first_policy in
    subst (λ a. IsTokenInRange (token_entry (root_token now a))) (sym good.2)
    (token_in_range forms first.tokens sound.tokens (token_text (id (other w))) (root_token now (id w))
    (get-put_self empty (token_text (id (other w))) (root_token now (id w))))

-- ---- it may be made

module _ (b : Broker) (sound : Sound forms None b) (words : Words) (good_token : IsIdentifier (id (token_word words)))
    (good_accessor : IsIdentifier (id (accessor_word words)))
    (new : are_new b.used (root_identifiers words) ≡ true) where
  abbrev token : Text
  token = id (token_word words)

  abbrev accessor : Text
  accessor = id (accessor_word words)

  rest_new : (not (same token accessor || false) ≡ true) × ((is_none (get b.used accessor) && true) ≡ true)
  rest_new = and_parts _ _ (and_parts (is_none (get b.used token)) _ new).1

  differ : token ≢ accessor
  differ e =
      false≢true (sym (ap (λ v. not (v || false)) (same_self token)) ∙ ap (λ k. not (same token k || false)) e
      ∙ rest_new.0)

  root_sound : IsSoundToken forms (root_text words) (root_token b.clock accessor)
  root_sound =
      let v = good_token.0 in
      let w = good_accessor.0 in
      let first = first_sound forms b.clock v w sound.clock good_token.1 good_accessor.1
      (λ e. differ (good_token.2 ∙ ap id e ∙ sym good_accessor.2)) first_policy in
      let x = root_token b.clock (id w) in
      let made = first.tokens.each (token_text (id v)) x (get-put_self empty (token_text (id v)) x) in
      subst (λ t. IsSoundToken forms (token_text t) (root_token b.clock accessor)) (sym good_token.2)
      (subst (λ a. IsSoundToken forms (token_text (id v)) (root_token b.clock a)) (sym good_accessor.2) made)

  pub may_be_made : MayBeMade forms b (root_text words) (root_token b.clock accessor)
  may_be_made = record {
    sound = root_sound;
    token_is_new = first_new b.used token accessor new;
    accessor_is_new = is_nothing (get b.used accessor) (and_parts (is_none (get b.used accessor)) true rest_new.1).0;
    differ = differ;
    parent = λ p e. absurd (none-some _ e);
    no_lease = refl;
    unspent = λ e. none-some _ e;
  }

-- ---- the first draw that is new

-- what is found passes
pub find_passes : {X : Type 0} (p : X → Bool) (xs : List X) (x : X) → find p xs ≡ Some x → p x ≡ true
find_passes p [] x is = absurd (none-some _ is)
find_passes p (y ∷ ys) x is =
    elim (p y) as (λ v. p y ≡ v → cond v (Some y) (find p ys) ≡ Some x → p x ≡ true) [
      | true ↦ λ passes one. ap p (sym (same_Some _ _ one)) ∙ passes
      | false ↦ λ _ rest. find_passes p ys x rest
    ] refl is
