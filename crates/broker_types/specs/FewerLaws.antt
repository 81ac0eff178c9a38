-- Laws of a broker that has no token, lease, wrapping token or waiting response but those of the one before it (this
-- project's).
use Rattle.std.proofs.Common.{◌≡◌, ◌≢◌, ◌≤◌, ◌<◌, ◌^◌, ℕ, Bool, true, false, Option, Some, None, option_map, refl, sym}
use Rattle.broker_types.specs.Words.{option_and_then, ◌∙◌, ap, inl, inr, false≢true, none-some, IsEnd, IsPathText}
use Rattle.broker_types.specs.Words.{IsObjectText, IsSoundLease, Forms, SoundIdentifiers, Sound, Unspent, IsSoundToken}
use Rattle.broker_types.specs.Words.{Text, Map, get, greatest_moment, Token, Tokens, Lease, Broker, Waiting, Place}
use Rattle.broker_types.specs.Words.{token, accessor, lease, credential, wrapping_token, wrapping_accessor}
use Rattle.broker_types.specs.Words.{identifier_at, lease_of, token_identifier, lease_identifier, Evolves, HasEnded}
use Rattle.broker_types.specs.OptionLaws.{mapped, found_or_not}
use Rattle.broker_types.specs.Laws.{IsTree}

-- y has the accessor of x, and no lease that x does not have
pub record IsLess (x y : Token) : Type 0 where
  pub same_accessor : y.accessor ≡ x.accessor
  pub fewer_leases : (lease_id : Text) (l : Lease) → get y.leases lease_id ≡ Some l → get x.leases lease_id ≡ Some l

-- each token of us is one of ts, with no lease that is new
abbrev pub AreFewer : Tokens → Tokens → Type 0
AreFewer ts us = (t : Text) (y : Token) → get us t ≡ Some y → (x : Token) × (get ts t ≡ Some x) × IsLess x y

-- what waits in vs waits in ws
abbrev pub WaitFewer : Map Waiting → Map Waiting → Type 0
WaitFewer ws vs = (t : Text) (w : Waiting) → get vs t ≡ Some w → get ws t ≡ Some w

-- ---- places

module _ (b c : Broker) (fewer : AreFewer b.tokens c.tokens) (wait : WaitFewer b.waiting c.waiting) where
  lease_before : (t lease_id : Text) (l : Lease) → lease_of c t lease_id ≡ Some l → lease_of b t lease_id ≡ Some l
  lease_before t lease_id l e = elim (found_or_not (get c.tokens t)) [
    | inl none ↦ absurd (none-some _ (sym (ap (option_and_then (λ (x : Token). get x.leases lease_id)) none) ∙ e))
    | inr y ↦ let x = fewer t y.0 y.1 in
        ap (option_and_then (λ (x : Token). get x.leases lease_id)) x.1
        ∙ x.2.fewer_leases lease_id l (sym (ap (option_and_then (λ (x : Token). get x.leases lease_id)) y.1) ∙ e)
  ]

  at_lease : {Y : Type 0} (f : Lease → Y) (t lease_id : Text) (i : Y)
      → option_map f (lease_of c t lease_id) ≡ Some i → option_map f (lease_of b t lease_id) ≡ Some i
  at_lease f t lease_id i e =
      let l = mapped f (lease_of c t lease_id) i e in
      ap (option_map f) (lease_before t lease_id l.0 l.1) ∙ ap Some (sym l.2)

  at_waiting : {Y : Type 0} (f : Waiting → Y) (t : Text) (i : Y)
      → option_map f (get c.waiting t) ≡ Some i → option_map f (get b.waiting t) ≡ Some i
  at_waiting f t i e =
      let w = mapped f (get c.waiting t) i e in ap (option_map f) (wait t w.0 w.1) ∙ ap Some (sym w.2)

  at_token : {Y : Type 0} (f : Token → Y) → ((x y : Token) → IsLess x y → f y ≡ f x) → (t : Text) (i : Y)
      → option_map f (get c.tokens t) ≡ Some i → option_map f (get b.tokens t) ≡ Some i
  at_token f like t i e =
      let y = mapped f (get c.tokens t) i e in
      let x = fewer t y.0 y.1 in
      ap (option_map f) x.1 ∙ ap Some (sym (y.2 ∙ like x.0 y.0 x.2))

  fewer_places : (p : Place) (i : Text) → identifier_at c p ≡ Some i → identifier_at b p ≡ Some i
  fewer_places (token t) i e = at_token (λ _. token_identifier t) (λ x y l. refl) t i e
  fewer_places (accessor t) i e = at_token (λ (x : Token). x.accessor) (λ x y l. l.same_accessor) t i e
  fewer_places (lease t lease_id) i e = at_lease (λ _. lease_identifier lease_id) t lease_id i e
  fewer_places (credential t lease_id) i e = at_lease (λ (l : Lease). l.credential) t lease_id i e
  fewer_places (wrapping_token t) i e = at_waiting (λ _. token_identifier t) t i e
  fewer_places (wrapping_accessor t) i e = at_waiting (λ (w : Waiting). w.accessor) t i e

-- ---- it evolves

module _ (b : Broker) where
  -- such a broker evolves from the one before
  pub fewer_evolves : (now : ℕ) (ts : Tokens) (ws : Map Waiting) → AreFewer b.tokens ts → WaitFewer b.waiting ws
      → Evolves b (record b { clock = now; tokens = ts; waiting = ws })
  fewer_evolves now ts ws fewer wait =
      let c : Broker = record b { clock = now; tokens = ts; waiting = ws } in
      record {
        used = λ i u. u;
        tokens = λ t y e. inl (λ none. absurd (none-some _ (sym none ∙ (fewer t y e).1)));
        leases = λ t lease_id l e. inl (l, lease_before b c fewer wait t lease_id l e, refl);
        wrapping_tokens = λ t w e. inl (λ none. absurd (none-some _ (sym none ∙ wait t w e)));
        waiting = λ t w e. inl (t, w, wait t w e, refl, refl);
      }

-- ---- what has ended

abbrev is_wrapping : Place → Bool
is_wrapping (wrapping_token t) = true
is_wrapping _ = false

module _ (b : Broker) (sound : SoundIdentifiers b) where
  -- a token that is gone has ended
  pub fewer_ended : (now : ℕ) (ts : Tokens) (ws : Map Waiting) (q : Text) → WaitFewer b.waiting ws
      → get b.tokens q ≢ None
      → get ts q ≡ None → HasEnded (record b { clock = now; tokens = ts; waiting = ws }) q
  fewer_ended now ts ws q wait stood gone = elim (found_or_not (get b.tokens q)) [
    | inl none ↦ absurd (stood none)
    | inr x ↦
        let here : identifier_at b (token q) ≡ Some (token_identifier q) =
        ap (option_map (λ _. token_identifier q)) x.1 in
        record {
          used = sound.all_used (token q) (token_identifier q) here;
          gone = gone;
          not_waiting = elim (found_or_not (get ws q)) [
            | inl none ↦ none
            | inr w ↦
                let there : identifier_at b (wrapping_token q) ≡ Some (token_identifier q) =
                ap (option_map (λ _. token_identifier q)) (wait q w.0 w.1) in
                let one : token q ≡ wrapping_token q =
                sound.one_place (token q) (wrapping_token q) (token_identifier q) here there in
                absurd (false≢true (ap is_wrapping one))
          ];
        }
  ]

-- ---- it is sound

module _ (forms : Forms) (t : Text) (x : Token) (s : IsSoundToken forms t x) where
  -- a sound token with another parent, end, number of uses left, cubbyhole and leases is sound
  pub edited_sound : (parent : Option Text) (ends uses : Option ℕ) (cubbyhole : Map Text) (leases : Map Lease)
      → ((m : ℕ) → ends ≡ Some m → IsEnd m)
      → ((n : ℕ) → uses ≡ Some n → n < 2 ^ 64)
      → ((path object : Text) → get cubbyhole path ≡ Some object → IsPathText path × IsObjectText forms object)
      → ((lease_id : Text) (l : Lease) → get leases lease_id ≡ Some l → IsSoundLease lease_id l)
      → IsSoundToken forms t (record x {
        parent = parent;
        ends = ends;
        uses_left = uses;
        cubbyhole = cubbyhole;
        leases = leases;
      })
  edited_sound parent ends uses cubbyhole leases good_end few_uses good_objects good_leases = record {
    name = s.name;
    accessor = s.accessor;
    policy_names = s.policy_names;
    policies_ascend = s.policies_ascend;
    few_policies = s.few_policies;
    issued = s.issued;
    ends = good_end;
    ttl = s.ttl;
    explicit_max_ttl = s.explicit_max_ttl;
    period = s.period;
    uses_left = few_uses;
    few_meta = s.few_meta;
    meta = s.meta;
    cubbyhole = good_objects;
    leases = good_leases;
  }

module _ (forms : Forms) (was who : Option Text) (b : Broker) (sound : Sound forms was b) where
  -- a broker whose tokens are a tree, each of them sound and none spent but for who, is sound
  pub fewer_sound : (now : ℕ) (ts : Tokens) (ws : Map Waiting) → now ≤ greatest_moment → IsTree ts
      → AreFewer b.tokens ts → WaitFewer b.waiting ws
      → ((t : Text) (y : Token) → get ts t ≡ Some y → IsSoundToken forms t y) → Unspent who ts
      → Sound forms who (record b { clock = now; tokens = ts; waiting = ws })
  fewer_sound now ts ws moment is_tree fewer wait each unspent =
      let c : Broker = record b { clock = now; tokens = ts; waiting = ws } in
      record {
        clock = moment;
        tokens = record { each = each; parents_exist = is_tree.parents_exist; chains_end = is_tree.chains_end };
        secrets = sound.secrets;
        waiting = record {
          each = λ t w e. sound.waiting.each t w (wait t w e);
          one_origin = λ t u v w e f same. sound.waiting.one_origin t u v w (wait t v e) (wait u w f) same;
        };
        mounts = sound.mounts;
        roles = sound.roles;
        policies = sound.policies;
        identifiers = record {
          used = sound.identifiers.used;
          one_place = λ p q i e f.
              sound.identifiers.one_place p q i
              (fewer_places b c fewer wait p i e) (fewer_places b c fewer wait q i f);
          all_used = λ p i e. sound.identifiers.all_used p i (fewer_places b c fewer wait p i e);
          origins_used = λ t w e. sound.identifiers.origins_used t w (wait t w e);
        };
        unspent = unspent;
      }

  -- the tokens of a sound broker are a tree
  pub tree_of : IsTree b.tokens
  tree_of = record { parents_exist = sound.tokens.parents_exist; chains_end = sound.tokens.chains_end }

-- each token is one of the same tokens
pub same_fewer : (ts : Tokens) → AreFewer ts ts
same_fewer ts t y e = (y, e, record { same_accessor = refl; fewer_leases = λ _ _ f. f })
