-- Maps and tokens that stay as they are, or change by an edit.
use Rattle.std.proofs.Common.{◌≡◌, ◌⊎◌, ◌||◌, if◌then◌else◌, List, [], Bool, true, false, Option, Some, None, refl, sym}
use Rattle.broker_model.specs.Words.{option_map, option_and_then, ◌∙◌, ap, subst, inl, inr, Text, same, same_true, Map}
use Rattle.broker_model.specs.Words.{get, map_values, get-map_values, valued_is, Token, Tokens, Lease, Broker, lease_of}
use Rattle.broker_model.specs.Words.{Part, chained, Both, IsNewTo, KeepsMaps, SameUnless, Stay, StaysAt, may_change}
use Rattle.records.specs.declared.kind.Kind.TheVariants as kind
use Rattle.cubbyhole.specs.Cubbyhole as cubbyhole
use Rattle.leases.specs.Leases as leases

-- ---- maps

pub same_unless : {X : Type 0} (may : Bool) (x : X) → SameUnless may x x
same_unless true x = tt
same_unless false x = refl

pub keeps_self : (changes : Option Part) (b : Broker) → KeepsMaps changes b b
keeps_self changes b = record {
  clock = refl;
  used = refl;
  tokens = same_unless (may_change changes kind.Token || may_change changes kind.Cubby || may_change changes kind.Lease)
      b.tokens;
  secrets = same_unless (may_change changes kind.KvKey) b.secrets;
  waiting = same_unless (may_change changes kind.Waiting) b.waiting;
  mounts = same_unless (may_change changes kind.Mount) b.mounts;
  roles = same_unless (may_change changes kind.Role) b.roles;
  policies = same_unless (may_change changes kind.Policy) b.policies;
}

-- ---- tokens

module _ (changes : Option Part) (who : Option Text) where
  -- a token that stays as it is
  pub as_it_is : (q : Text) (x : Token) → StaysAt changes who q x x
  as_it_is q x = record { rest = refl; cubbyhole = inl refl; leases = inl refl }

  both_same : (q : Text) (o : Option Token) → Both (StaysAt changes who q) o o
  both_same q None = tt
  both_same q (Some x) = as_it_is q x

  -- tokens stay where none changes
  pub stay_same : (taken : List Text) (b next : Broker) → next.tokens ≡ b.tokens → Stay changes who taken b next
  stay_same taken b next is = record {
    tokens = λ q. subst (λ (m : Tokens). Both (StaysAt changes who q) (get b.tokens q) (get m q)) (sym is)
        (both_same q (get b.tokens q));
    leases = λ q lease_id l e.
        inl (
          l,
          ap (λ (m : Tokens). option_and_then (λ (x : Token). get x.leases lease_id) (get m q)) (sym is) ∙ e,
          refl,
        );
  }

  -- ---- edits

  module _ (taken : List Text) (b next : Broker) (f : Text → Token → Token)
      (is : next.tokens ≡ map_values f b.tokens) where
    both_edited : (q : Text) → ((x : Token) → StaysAt changes who q x (f q x)) → (o : Option Token)
        → Both (StaysAt changes who q) o (option_map (f q) o)
    both_edited q stays None = tt
    both_edited q stays (Some x) = stays x

    tokens_edited : ((q : Text) (x : Token) → StaysAt changes who q x (f q x))
        → (q : Text) → Both (StaysAt changes who q) (get b.tokens q) (get next.tokens q)
    tokens_edited stays q =
        subst (Both (StaysAt changes who q) (get b.tokens q))
        (sym (ap (λ (m : Tokens). get m q) is ∙ get-map_values f b.tokens q))
        (both_edited q (stays q) (get b.tokens q))

    -- the lease of an edited token, and the token as it was
    edited_lease : (q lease_id : Text) (l : Lease) → lease_of next q lease_id ≡ Some l
        → (x : Token) × (get b.tokens q ≡ Some x) × (get (f q x).leases lease_id ≡ Some l)
    edited_lease q lease_id l e =
        let y = chained (λ (y : Token). get y.leases lease_id) (get next.tokens q) l e in
        let x = valued_is f b.tokens q y.0 (ap (λ (m : Tokens). get m q) (sym is) ∙ y.1) in
        (x.0, x.1, ap (λ (z : Token). get z.leases lease_id) (sym x.2) ∙ y.2)

    -- tokens stay where each is edited so that its leases were there, or are the caller's and were given out
    pub stay_edited : ((q : Text) (x : Token) → StaysAt changes who q x (f q x))
        → ((q : Text) (x : Token) → get b.tokens q ≡ Some x → (lease_id : Text) (l : Lease)
        → get (f q x).leases lease_id ≡ Some l
        → ((k : Lease) × (get x.leases lease_id ≡ Some k) × (k.credential ≡ l.credential))
        ⊎ IsNewTo who taken q lease_id l)
        → Stay changes who taken b next
    stay_edited stays given = record {
      tokens = tokens_edited stays;
      leases = λ q lease_id l e.
          let x = edited_lease q lease_id l e in
          elim (given q x.0 x.1 lease_id l x.2) [
            | inl was ↦ inl (was.0, ap (option_and_then (λ (z : Token). get z.leases lease_id)) x.1 ∙ was.1, was.2)
            | inr new ↦ inr new
          ];
    }

  -- where a cubbyhole of the caller c is edited
  pub stay_cubbyhole : (b : Broker) (c : Text) (edit : Map Text → Map Text) → who ≡ Some c
      → may_change changes kind.Cubby ≡ true → Stay changes who [] b (cubbyhole.edited b c edit)
  stay_cubbyhole b c edit is_c may =
      stay_edited [] b (cubbyhole.edited b c edit) (λ q x. if same q c then cubbyhole.with_cubbyhole edit x else x) refl
      (λ q x. by_text q x (same q c) refl)
      (λ q x there lease_id l e. inl (l, by_lease q x (same q c) lease_id l e, refl))
    where
      by_text : (q : Text) (x : Token) (v : Bool) → same q c ≡ v
          → StaysAt changes who q x (if v then cubbyhole.with_cubbyhole edit x else x)
      by_text q x true at =
          record { rest = refl; cubbyhole = inr (may, is_c ∙ ap Some (sym (same_true q c at))); leases = inl refl }
      by_text q x false at = as_it_is q x

      by_lease : (q : Text) (x : Token) (v : Bool) (lease_id : Text) (l : Lease)
          → get (if v then cubbyhole.with_cubbyhole edit x else x).leases lease_id ≡ Some l
          → get x.leases lease_id ≡ Some l
      by_lease q x true lease_id l e = e
      by_lease q x false lease_id l e = e

  -- where leases are edited so that each was there, with the same credential
  pub stay_leases : (b next : Broker) (edit : Text → Map Lease → Map Lease)
      → next.tokens ≡ (leases.edited b edit).tokens
      → may_change changes kind.Lease ≡ true
      → ((t lease_id : Text) (m : Map Lease) (l : Lease) → get (edit t m) lease_id ≡ Some l
      → (k : Lease) × (get m lease_id ≡ Some k) × (k.credential ≡ l.credential))
      → Stay changes who [] b next
  stay_leases b next edit is may keeps =
      stay_edited [] b next (λ t x. leases.with_leases (edit t x.leases) x) is
      (λ q x. record { rest = refl; cubbyhole = inl refl; leases = inr may })
      (λ q x there lease_id l e. inl (keeps q lease_id x.leases l e))
