-- Where the identifiers of a broker come from that follows another one.
use Rattle.std.proofs.Common.{◌≡◌, ◌⊎◌, if◌then◌else◌}
use Rattle.records.specs.Words.{revoke_orphan, with_live_leases, Place}
use Rattle.broker_types.specs.IdentifierPlaces as place
use Rattle.histories.specs.Words.{not, nat_lt, ℕ, max, List, [], Bool, true, false, Option, Some, None, option_map}
use Rattle.histories.specs.Words.{option_and_then, list_any, option_map_or, refl, sym, ◌∙◌, ap, subst, inl, inr}
use Rattle.histories.specs.Words.{false≢true, Text, same, Map, get, keep, map_values, without, valued_is, without_is}
use Rattle.histories.specs.Words.{Broker, Waiting, at_moment, revoke, waiting_ends, is_under, orphaned_by, mapped}
use Rattle.histories.specs.Words.{OnePlaceEach, identifier_at, lease_identifier, lease_of, token_identifier, kept_get}
use Rattle.histories.specs.Words.{drop_waiting, end_spent, is_spent, one_less, spend, Token, Tokens, Lease, alive_is}
use Rattle.histories.specs.Words.{chained}
use Rattle.histories.proofs.OrderCases.{spent}

-- ---- where an identifier was

-- the identifier was in that place of b, or is among those given out
abbrev pub WasAt : Broker → List Text → Place → Text → Type 0
WasAt b given p i = (identifier_at b p ≡ Some i) ⊎ (list_any (same i) given ≡ true)

-- so was each identifier in a place of c
abbrev pub Placed : Broker → List Text → Broker → Type 0
Placed b given c = (p : Place) (i : Text) → identifier_at c p ≡ Some i → WasAt b given p i

pub placed_self : (b : Broker) (given : List Text) → Placed b given b
placed_self b given p i e = inl e

pub placed_trans : (b c d : Broker) (given : List Text) → Placed b given c → Placed c given d → Placed b given d
placed_trans b c d given one other p i e = elim (other p i e) [ inl was ↦ one p i was | inr here ↦ inr here ]

-- the same, if more was given out
pub placed_more : (b c : Broker) (given more : List Text)
    → ((i : Text) → list_any (same i) given ≡ true → list_any (same i) more ≡ true) → Placed b given c → Placed b more c
placed_more b c given more all h p i e = elim (h p i e) [ inl was ↦ inl was | inr here ↦ inr (all i here) ]

-- ---- tokens, leases and responses

-- both identifiers of the lease of the token t were there
pub record LeaseFrom (b : Broker) (given : List Text) (t lease_id : Text) (l : Lease) : Type 0 where
  pub identifier : WasAt b given (place.lease t lease_id) (lease_identifier lease_id)
  pub credential : WasAt b given (place.credential t lease_id) l.credential

-- so were those of the token, its accessor and its leases
pub record TokenFrom (b : Broker) (given : List Text) (t : Text) (x : Token) : Type 0 where
  pub identifier : WasAt b given (place.token t) (token_identifier t)
  pub accessor : WasAt b given (place.accessor t) x.accessor
  pub leases : (lease_id : Text) (l : Lease) → get x.leases lease_id ≡ Some l → LeaseFrom b given t lease_id l

-- so were those of the wrapping token and its accessor
pub record WaitingFrom (b : Broker) (given : List Text) (t : Text) (w : Waiting) : Type 0 where
  pub identifier : WasAt b given (place.wrapping_token t) (token_identifier t)
  pub accessor : WasAt b given (place.wrapping_accessor t) w.accessor

-- The token x has the accessor of y, and each of its leases y had, with the same credential.
pub record Stays (y x : Token) : Type 0 where
  pub accessor : y.accessor ≡ x.accessor
  pub leases : (lease_id : Text) (l : Lease) → get x.leases lease_id ≡ Some l
      → (k : Lease) × (get y.leases lease_id ≡ Some k) × (k.credential ≡ l.credential)

pub stays_self : (x : Token) → Stays x x
stays_self x = record { accessor = refl; leases = λ lease_id l e. (l, e, refl) }

-- a token with the same accessor and leases
pub same_parts : (y x : Token) → y.accessor ≡ x.accessor → y.leases ≡ x.leases → Stays y x
same_parts y x accessor leases = record {
  accessor = accessor;
  leases = λ lease_id l e. (l, ap (λ (m : Map Lease). get m lease_id) leases ∙ e, refl);
}

module _ (b : Broker) (given : List Text) where
  -- what all tokens and responses of c were, all its places were
  pub from_maps : (c : Broker) → ((t : Text) (x : Token) → get c.tokens t ≡ Some x → TokenFrom b given t x)
      → ((t : Text) (w : Waiting) → get c.waiting t ≡ Some w → WaitingFrom b given t w) → Placed b given c
  from_maps c tokens waiting (place.token t) i e =
      let x = mapped (λ (x : Token). token_identifier t) (get c.tokens t) i e in
      subst (WasAt b given (place.token t)) (sym x.2) (tokens t x.0 x.1).identifier
  from_maps c tokens waiting (place.accessor t) i e =
      let x = mapped (λ (x : Token). x.accessor) (get c.tokens t) i e in
      subst (WasAt b given (place.accessor t)) (sym x.2) (tokens t x.0 x.1).accessor
  from_maps c tokens waiting (place.lease t lease_id) i e =
      let l = mapped (λ (l : Lease). lease_identifier lease_id) (lease_of c t lease_id) i e in
      let x = chained (λ (x : Token). get x.leases lease_id) (get c.tokens t) l.0 l.1 in
      subst (WasAt b given (place.lease t lease_id)) (sym l.2) ((tokens t x.0 x.1).leases lease_id l.0 x.2).identifier
  from_maps c tokens waiting (place.credential t lease_id) i e =
      let l = mapped (λ (l : Lease). l.credential) (lease_of c t lease_id) i e in
      let x = chained (λ (x : Token). get x.leases lease_id) (get c.tokens t) l.0 l.1 in
      subst (WasAt b given (place.credential t lease_id)) (sym l.2)
      ((tokens t x.0 x.1).leases lease_id l.0 x.2).credential
  from_maps c tokens waiting (place.wrapping_token t) i e =
      let w = mapped (λ (w : Waiting). token_identifier t) (get c.waiting t) i e in
      subst (WasAt b given (place.wrapping_token t)) (sym w.2) (waiting t w.0 w.1).identifier
  from_maps c tokens waiting (place.wrapping_accessor t) i e =
      let w = mapped (λ (w : Waiting). w.accessor) (get c.waiting t) i e in
      subst (WasAt b given (place.wrapping_accessor t)) (sym w.2) (waiting t w.0 w.1).accessor

  -- a lease that a token had
  pub lease_from : (t lease_id : Text) (y : Token) (k l : Lease) → get b.tokens t ≡ Some y
      → get y.leases lease_id ≡ Some k
      → k.credential ≡ l.credential → LeaseFrom b given t lease_id l
  lease_from t lease_id y k l is there same_credential =
      let at : lease_of b t lease_id ≡ Some k = ap (option_and_then (λ (x : Token). get x.leases lease_id)) is
      ∙ there in
      record {
        identifier = inl (ap (option_map (λ (l : Lease). lease_identifier lease_id)) at);
        credential = inl (ap (option_map (λ (l : Lease). l.credential)) at ∙ ap Some same_credential);
      }

  -- a token that was there
  pub token_from : (t : Text) (y x : Token) → get b.tokens t ≡ Some y → Stays y x → TokenFrom b given t x
  token_from t y x is stays = record {
    identifier = inl (ap (option_map (λ (z : Token). token_identifier t)) is);
    accessor = inl (ap (option_map (λ (z : Token). z.accessor)) is ∙ ap Some stays.accessor);
    leases = λ lease_id l e. let k = stays.leases lease_id l e in lease_from t lease_id y k.0 l is k.1 k.2;
  }

  -- a response that waited there
  pub waiting_from : (t : Text) (w : Waiting) → get b.waiting t ≡ Some w → WaitingFrom b given t w
  waiting_from t w is = record {
    identifier = inl (ap (option_map (λ (z : Waiting). token_identifier t)) is);
    accessor = inl (ap (option_map (λ (z : Waiting). z.accessor)) is);
  }

  -- ---- brokers that differ in their tokens, or in what waits

  tokens_same : (c : Broker) → c.tokens ≡ b.tokens → (t : Text) (x : Token) → get c.tokens t ≡ Some x
      → TokenFrom b given t x
  tokens_same c is t x e = token_from t x x (ap (λ (m : Tokens). get m t) (sym is) ∙ e) (stays_self x)

  waiting_same : (c : Broker) → c.waiting ≡ b.waiting → (t : Text) (w : Waiting) → get c.waiting t ≡ Some w
      → WaitingFrom b given t w
  waiting_same c is t w e = waiting_from t w (ap (λ (m : Map Waiting). get m t) (sym is) ∙ e)

  -- in neither
  pub same_maps : (c : Broker) → c.tokens ≡ b.tokens → c.waiting ≡ b.waiting → Placed b given c
  same_maps c tokens waiting = from_maps c (tokens_same c tokens) (waiting_same c waiting)

  -- in what waits
  pub other_waiting : (c : Broker) → c.tokens ≡ b.tokens
      → ((t : Text) (w : Waiting) → get c.waiting t ≡ Some w → WaitingFrom b given t w) → Placed b given c
  other_waiting c tokens waiting = from_maps c (tokens_same c tokens) waiting

  -- in their tokens
  pub other_tokens : (c : Broker) → c.waiting ≡ b.waiting
      → ((t : Text) (x : Token) → get c.tokens t ≡ Some x → TokenFrom b given t x) → Placed b given c
  other_tokens c waiting tokens = from_maps c tokens (waiting_same c waiting)

  -- in the values of their tokens
  pub other_values : (f : Text → Token → Token) → ((t : Text) (y : Token) → Stays y (f t y))
      → Placed b given (record b { tokens = map_values f b.tokens })
  other_values f stays = other_tokens (record b { tokens = map_values f b.tokens }) refl (λ t x e.
      let y = valued_is f b.tokens t x e in
      token_from t y.0 x y.1 (subst (Stays y.0) (sym y.2) (stays t y.0)))

  -- in one token
  pub other_value : (t : Text) (f : Token → Token) → ((y : Token) → Stays y (f y))
      → Placed b given (record b { tokens = map_values (λ q (x : Token). if same q t then f x else x) b.tokens })
  other_value t f stays = other_values (λ q (x : Token). if same q t then f x else x)
      (λ q y. elim (same q t) as (λ v. Stays y (if v then f y else y)) [ true ↦ stays y | false ↦ stays_self y ])

  -- tokens that are left
  pub fewer_tokens : (passes : Text → Bool) → Placed b given (record b { tokens = keep passes b.tokens })
  fewer_tokens passes = other_tokens (record b { tokens = keep passes b.tokens }) refl (λ t x e.
      token_from t x x (kept_get passes b.tokens t x e).0 (stays_self x))

  -- ---- what the order of a request does

  pub moment_placed : (moment : ℕ) → Placed b given (at_moment b moment)
  moment_placed moment =
      let now = max b.clock moment in
      from_maps (at_moment b moment)
      (λ t x e.
      let y = alive_is now b.tokens t x e in
      token_from t y.0 x y.1 (subst (Stays y.0) (sym y.3) (live y.0 now)))
      (λ t w e.
      waiting_from t w (kept_get (λ u. option_map_or (λ v. nat_lt now (waiting_ends v)) (get b.waiting u) false)
      b.waiting t w e).0)
    where
      live : (y : Token) (now : ℕ) → Stays y (with_live_leases now y)
      live y now = record {
        accessor = refl;
        leases = λ lease_id l e. (
          l,
          (kept_get (λ id. option_map_or (λ (l : Lease). nat_lt now l.ends) (get y.leases id) false) y.leases
              lease_id l e).0,
          refl,
        );
      }

  pub spent_placed : (who : Option Text) → Placed b given (spent b who)
  spent_placed None = placed_self b given
  spent_placed (Some c) = other_value c one_less (λ y. same_parts y (one_less y) refl refl)

  pub drop_placed : (t : Text) → Placed b given (drop_waiting b t)
  drop_placed t = other_waiting (drop_waiting b t) refl (λ u w e. waiting_from u w (without_is b.waiting t u w e).1)

  pub revoke_placed : (t : Text) → Placed b given (revoke b t)
  revoke_placed t = fewer_tokens (λ q. not (is_under b.tokens q t))

  pub orphan_placed : (t : Text) → Placed b given (revoke_orphan b t)
  orphan_placed t = other_tokens (revoke_orphan b t) refl (λ q x e.
      let y = valued_is (λ q. orphaned_by t) (without b.tokens t) q x e in
      token_from q y.0 x (without_is b.tokens t q y.0 y.1).1
      (subst (Stays y.0) (sym y.2) (same_parts y.0 (orphaned_by t y.0) refl refl)))

  pub end_placed : (who : Option Text) → Placed b given (end_spent b who)
  end_placed None = placed_self b given
  end_placed (Some c) =
      elim (option_map_or is_spent (get b.tokens c) false) as (λ v. Placed b given (if v then revoke b c else b)) [
        | true ↦ revoke_placed c
        | false ↦ placed_self b given
      ]

-- each identifier is in its place at a moment, with a use that the caller has spent
pub one_place_still : (b : Broker) (moment : ℕ) (c : Text) → OnePlaceEach b
    → OnePlaceEach (spend (at_moment b moment) c)
one_place_still b moment c one p q i at other = one p q i (was p at) (was q other)
  where
    was : (p : Place) → identifier_at (spend (at_moment b moment) c) p ≡ Some i → identifier_at b p ≡ Some i
    was p e = elim (placed_trans b (at_moment b moment) (spend (at_moment b moment) c) [] (moment_placed b [] moment)
        (spent_placed (at_moment b moment) [] (Some c)) p i e) [
          | inl here ↦ here
          | inr given ↦ absurd (false≢true given)
        ]
