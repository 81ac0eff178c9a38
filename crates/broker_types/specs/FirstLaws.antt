-- A law of the first broker: it is sound.
use Rattle.std.proofs.Common.{◌≡◌, ◌≢◌, ◌<◌, ◌≤◌, ◌^◌, ◌&&◌, ◌⊎◌, ◌∷◌, ◌==◌, ℕ, [], Bool, true, false, cond, nat_lt, ap}
use Rattle.broker_types.specs.Words.{length, drop, codes, Option, Some, None, option_map, option_and_then, is_none}
use Rattle.broker_types.specs.Words.{IsUtf8, All, list_all, option_map_or, get-empty, len-empty, refl, sym, ◌∙◌, subst}
use Rattle.broker_types.specs.Words.{inl, inr, lit<, zero-le, All-cons, All-nil, IsUtf8-from_ascii, IsAscii-from_all}
use Rattle.broker_types.specs.Words.{ltb-true, false≢true, none-some, Text, text_cmp, same, get, put, empty, len, id}
use Rattle.broker_types.specs.Words.{token_text, greatest_moment, is_name, Token, Lease, ends_within, Broker, Waiting}
use Rattle.broker_types.specs.Words.{kv, Place, token, accessor, lease, credential, wrapping_token, wrapping_accessor}
use Rattle.broker_types.specs.Words.{identifier_at, lease_of, IsUsed, Forms, Sound, IsSoundToken, IsSoundMount}
use Rattle.broker_types.specs.Words.{IsSoundPolicy, IsShortText, default_policy, root_token, first_broker}
use Rattle.broker_types.specs.OptionLaws.{mapped}
use Rattle.broker_types.specs.TextLaws.{same_true}
use Rattle.broker_types.specs.MapLaws.{get-put, get-put_self, get-one, no_entry, one_entry}
use Rattle.broker_types.specs.LineageLaws.{ends_in_time}
use Rattle.broker_types.specs.IdentifierLaws.{id-same}

-- ---- texts

abbrev is_below : ℕ → Bool
is_below b = nat_lt b 128

small : (b : ℕ) → is_below b ≡ true → b < 128
small b h = ltb-true b 128 h

all_small : (t : Text) → list_all is_below t ≡ true → All (λ b. b < 128) t
all_small [] h = All-nil (λ b. b < 128)
all_small (b ∷ bs) h =
    elim (is_below b) as (λ v. is_below b ≡ v → (v && list_all is_below bs) ≡ true → All (λ b. b < 128) (b ∷ bs)) [
      | true ↦ λ e g. All-cons (λ b. b < 128) b bs (small b e) (all_small bs g)
      | false ↦ λ _ g. absurd (false≢true g)
    ] refl h

ascii : (t : Text) → list_all is_below t ≡ true → IsUtf8 t
ascii t h = IsUtf8-from_ascii t (IsAscii-from_all t (all_small t h))

default_short : IsShortText default_policy
unfolding default_policy
default_short = record { utf8 = ascii default_policy refl; short = lit< tt }

secret_sound : IsSoundMount (codes "secret") (record { engine = kv; cas_required = false; max_versions = 0 })
unfolding same
secret_sound = record { mount_name = refl; max_versions = lit< tt }

not_root : codes "default" ≡ codes "root" → ⊥
not_root e = false≢true (ap (λ (t : Text). length t == 4) e)

-- ---- the root token

module _ (forms : Forms) (moment v w : ℕ) (now : moment ≤ greatest_moment) (fits_v : v < 2 ^ 128)
    (fits_w : w < 2 ^ 128) where
  abbrev root : Text
  root = token_text (id v)

  abbrev first : Broker
  first = first_broker moment v w

  root_sound : IsSoundToken forms root (root_token moment (id w))
  root_sound = record {
    name = (id v, (v, fits_v, refl), refl);
    accessor = (w, fits_w, refl);
    policy_names = All-cons (λ p. is_name p ≡ true) (codes "root") [] refl (All-nil (λ p. is_name p ≡ true));
    policies_ascend = refl;
    few_policies = lit< tt;
    issued = now;
    ends = λ m e. absurd (none-some _ e);
    ttl = zero-le;
    explicit_max_ttl = zero-le;
    period = zero-le;
    uses_left = λ n e. absurd (none-some _ e);
    few_meta = subst (λ n. n < 2 ^ 32) (sym (len-empty text_cmp Text)) (lit< tt);
    meta = λ name value e. absurd (no_entry name value e);
    cubbyhole = λ path object e. absurd (no_entry path object e);
    leases = λ lease_id l e. absurd (no_entry lease_id l e);
  }

  token_is : (t : Text) (x : Token) → get first.tokens t ≡ Some x → (t ≡ root) × (x ≡ root_token moment (id w))
  token_is t x e = one_entry root t (root_token moment (id w)) x e

  token_sound : (t : Text) (x : Token) → get first.tokens t ≡ Some x → IsSoundToken forms t x
  token_sound t x e =
      let r = token_is t x e in
      subst (λ z. IsSoundToken forms z x) (sym r.0) (subst (λ y. IsSoundToken forms root y) (sym r.1) root_sound)

  no_parent : (t p : Text) (x : Token) → get first.tokens t ≡ Some x → x.parent ≡ Some p → ⊥
  no_parent t p x e f = absurd (none-some _ (ap (λ (y : Token). y.parent) (sym (token_is t x e).1) ∙ f))

  chain_ends : (t : Text) → ends_within (len first.tokens) first.tokens t ≡ true
  chain_ends t = ends_in_time first.tokens t 1 (by (get first.tokens t) (λ x e. e))
    where
      by : (o : Option Token) → ((x : Token) → o ≡ Some x → get first.tokens t ≡ Some x)
          → option_map_or (λ (x : Token). option_map_or (λ p. is_none (get first.tokens p)) x.parent true) o true ≡ true
      by None h = refl
      by (Some x) h =
          ap (λ (y : Token). option_map_or (λ p. is_none (get first.tokens p)) y.parent true)
          (token_is t x (h x refl)).1

  -- ---- identifiers

  used_is : (i : Text) → IsUsed first i → (i ≡ id v) ⊎ (i ≡ id w)
  used_is i u =
      elim (same i (id w)) as (λ b. same i (id w) ≡ b → (i ≡ id v) ⊎ (i ≡ id w)) [
        | true ↦ λ s. inr (same_true i (id w) s)
        | false ↦ λ s. elim (same i (id v)) as (λ b. same i (id v) ≡ b → (i ≡ id v) ⊎ (i ≡ id w)) [
          | true ↦ λ r. inl (same_true i (id v) r)
          | false ↦ λ r. absurd (u (
              get-put _ (id w) (tt {0}) i ∙ ap (λ b. cond b (Some (tt {0})) (get (put empty (id v) (tt {0})) i)) s
              ∙ get-one (id v) (tt {0}) i ∙ ap (λ b. cond b (Some (tt {0})) None) r))
        ] refl
      ] refl

  used_v : IsUsed first (id v)
  used_v none =
      elim (same (id v) (id w)) as (λ b. cond b (Some (tt {0})) (get (put empty (id v) (tt {0})) (id v)) ≡ None → ⊥) [
        | true ↦ λ e. absurd (none-some _ (sym e))
        | false ↦ λ e. absurd (none-some _ (sym e ∙ get-put_self empty (id v) (tt {0})))
      ] (sym (get-put _ (id w) (tt {0}) (id v)) ∙ none)

  used_w : IsUsed first (id w)
  used_w none = absurd (none-some _ (sym none ∙ get-put_self _ (id w) (tt {0})))

  -- the two places that have an identifier
  abbrev IsFilled : Place → Text → Type 0
  IsFilled p i = ((p ≡ token root) × (i ≡ id v)) ⊎ ((p ≡ accessor root) × (i ≡ id w))

  no_lease : (t lease_id : Text) → lease_of first t lease_id ≡ None
  no_lease t lease_id = by (get first.tokens t) (λ x e. e)
    where
      by : (o : Option Token) → ((x : Token) → o ≡ Some x → get first.tokens t ≡ Some x)
          → option_and_then (λ (x : Token). get x.leases lease_id) o ≡ None
      by None h = refl
      by (Some x) h =
          ap (λ (y : Token). get y.leases lease_id) (token_is t x (h x refl)).1 ∙ get-empty text_cmp lease_id

  at_token : (t i : Text) → identifier_at first (token t) ≡ Some i → IsFilled (token t) i
  at_token t i e =
      let x = mapped (λ _. drop 4 t) (get first.tokens t) i e in
      let r = token_is t x.0 x.1 in
      inl (ap token r.0, x.2 ∙ ap (drop 4) r.0)

  at_accessor : (t i : Text) → identifier_at first (accessor t) ≡ Some i → IsFilled (accessor t) i
  at_accessor t i e =
      let x = mapped (λ (x : Token). x.accessor) (get first.tokens t) i e in
      let r = token_is t x.0 x.1 in
      inr (ap accessor r.0, x.2 ∙ ap (λ (y : Token). y.accessor) r.1)

  filled : (p : Place) (i : Text) → identifier_at first p ≡ Some i → IsFilled p i
  filled (token t) i e = at_token t i e
  filled (accessor t) i e = at_accessor t i e
  filled (lease t lease_id) i e = absurd (none-some _ (sym (ap (option_map (λ _. _)) (no_lease t lease_id)) ∙ e))
  filled (credential t lease_id) i e =
      absurd (none-some _ (sym (ap (option_map (λ (l : Lease). l.credential)) (no_lease t lease_id)) ∙ e))
  filled (wrapping_token t) i e =
      absurd (none-some _ (sym (ap (option_map (λ _. drop 4 t)) (get-empty text_cmp t)) ∙ e))
  filled (wrapping_accessor t) i e =
      absurd (none-some _ (sym (ap (option_map (λ (x : Waiting). x.accessor)) (get-empty text_cmp t)) ∙ e))

  one_place : v ≢ w → (p q : Place) (i : Text) → identifier_at first p ≡ Some i → identifier_at first q ≡ Some i → p ≡ q
  one_place ne p q i e f = elim (filled p i e) [
    | inl a ↦ elim (filled q i f) [
      | inl b ↦ a.0 ∙ sym b.0
      | inr b ↦ absurd (ne (id-same v w fits_v fits_w (sym a.1 ∙ b.1)))
    ]
    | inr a ↦ elim (filled q i f) [
      | inl b ↦ absurd (ne (id-same v w fits_v fits_w (sym b.1 ∙ a.1)))
      | inr b ↦ a.0 ∙ sym b.0
    ]
  ]

  all_used : (p : Place) (i : Text) → identifier_at first p ≡ Some i → IsUsed first i
  all_used p i e = elim (filled p i e) [
    | inl a ↦ subst (λ z. IsUsed first z) (sym a.1) used_v
    | inr a ↦ subst (λ z. IsUsed first z) (sym a.1) used_w
  ]

  -- the first broker is sound
  pub first_sound : v ≢ w → forms.is_policy default_policy ≡ true → Sound forms None first
  first_sound ne accepted = record {
    clock = now;
    tokens =
        record { each = token_sound; parents_exist = λ t p x e f none. no_parent t p x e f; chains_end = chain_ends };
    secrets = λ q k e. absurd (no_entry q k e);
    waiting = record { each = λ t x e. absurd (no_entry t x e); one_origin = λ t u x y e f g. absurd (no_entry t x e) };
    mounts = λ name m e.
        let r = one_entry (codes "secret") name (record { engine = kv; cas_required = false; max_versions = 0 }) m e in
        subst (λ z. IsSoundMount z m) (sym r.0) (subst (λ y. IsSoundMount (codes "secret") y) (sym r.1) secret_sound);
    roles = λ q r e. absurd (no_entry q r e);
    policies = λ name text e.
        let r = one_entry (codes "default") name default_policy text e in
        let kept : IsSoundPolicy forms (codes "default") default_policy =
        record { policy_name = refl; not_root = not_root; policy = accepted; short = default_short } in
        subst (λ z. IsSoundPolicy forms z text) (sym r.0)
        (subst (λ y. IsSoundPolicy forms (codes "default") y) (sym r.1) kept);
    identifiers = record {
      used = λ i u. elim (used_is i u) [ inl e ↦ (v, fits_v, e) | inr e ↦ (w, fits_w, e) ];
      one_place = one_place ne;
      all_used = all_used;
      origins_used = λ t x e. absurd (no_entry t x e);
    };
    unspent = λ t x e zero. let r = one_entry root t (root_token moment (id w)) x e in
        absurd (none-some _ (ap (λ (z : Token). z.uses_left) (sym r.1) ∙ zero));
  }
