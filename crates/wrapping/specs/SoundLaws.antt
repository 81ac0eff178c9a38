-- Responses that are stored, moved and dropped leave a sound broker sound, and let it evolve.
use Rattle.std.proofs.Common.{◌≡◌, ◌≢◌, ◌⊎◌, ℕ, Option, Some, None, option_map, drop, refl, sym, ◌∙◌, ap, subst, inl}
use Rattle.records.specs.Words.{option_map_or, inr, none-some, Text, Map, get, put, without, keep, Broker, Waiting}
use Rattle.records.specs.Words.{Evolves, IsNew, WaitedBefore, token, accessor, lease, credential, wrapping_token}
use Rattle.records.specs.Words.{wrapping_accessor, token_identifier, IsUsed, Forms, Sound, IsMoment, IsIdentifier}
use Rattle.records.specs.Words.{IsTokenText, IsSoundWaiting, drop_waiting, WaitFewer, fewer_evolves, fewer_sound}
use Rattle.records.specs.Words.{same_fewer, tree_of, without_is, HasTwoMore, still_marked, first_marked, sound_with_two}
use Rattle.records.specs.Words.{mapped, found_or_not, put_is, evolves_self, drop_evolves, drop_sound, drop_ends_origin}
use Rattle.wrapping.specs.ResponseLaws.{rewrap_is, rewrap_unknown, later_fewer}
use Rattle.wrapping.specs.Wrapping.{find_accessor, with_waiting, stored, MayBeStored, moved, rewrap, drop_accessor}
use Rattle.wrapping.specs.Wrapping.{still_waits, without_ended}

-- ---- it evolves

module _ (b : Broker) (t : Text) (w : Waiting) where
  put_evolves : (ws : Map Waiting) → WaitFewer b.waiting ws → IsNew b (token_identifier t)
      → WaitedBefore b w ⊎ IsNew b w.origin → Evolves b (record b { waiting = put ws t w })
  put_evolves ws fewer new origin = record {
    used = λ i used. used;
    tokens = λ q x is. inl (λ none. absurd (none-some _ (sym none ∙ is)));
    leases = λ q lease_id l is. inl (l, is, refl);
    wrapping_tokens = λ q v is.
        put_is ws t w q v _ is (λ qt vw. inr (subst (λ z. IsNew b (token_identifier z)) (sym qt) new))
        (λ old. inl (λ none. absurd (none-some _ (sym none ∙ fewer q v old))));
    waiting = λ q v is.
        put_is ws t w q v (WaitedBefore b v ⊎ IsNew b v.origin) is
        (λ qt vw. subst (λ (z : Waiting). WaitedBefore b z ⊎ IsNew b z.origin) (sym vw) origin)
        (λ old. inl (q, v, fewer q v old, refl, refl));
  }

  -- a response stored under a new identifier, which is its origin, lets the broker evolve
  pub store_evolves : IsNew b (token_identifier t) → w.origin ≡ token_identifier t → Evolves b (with_waiting b t w)
  store_evolves new origin =
      put_evolves b.waiting (λ q v e. e) new (inr (subst (IsNew b) (sym origin) new))

module _ (b : Broker) where
  -- so does one that moves to a new identifier
  pub rewrap_evolves : (t u a : Text) (now : ℕ) → IsNew b (token_identifier u) → Evolves b (rewrap b t u a now)
  rewrap_evolves t u a now new = elim (found_or_not (get b.waiting t)) [
    | inl none ↦ subst (Evolves b) (sym (rewrap_unknown b t u a now none)) (evolves_self b)
    | inr w ↦ subst (Evolves b) (sym (rewrap_is b t u a now w.0 w.1))
        (put_evolves b u (moved a now w.0) (without b.waiting t) (λ q v e. (without_is b.waiting t q v e).1) new
        (inl (t, w.0, w.1, refl, refl)))
  ]

  -- and one that is dropped by its accessor
  pub drop_accessor_evolves : (a : Text) → Evolves b (drop_accessor b a)
  drop_accessor_evolves a = by (find_accessor b a)
    where
      by : (o : Option Text) → Evolves b (option_map_or (drop_waiting b) o b)
      by None = evolves_self b
      by (Some t) = drop_evolves b t

  -- and those that have come to their end
  pub ends_evolve : (now : ℕ) → Evolves b (without_ended b now)
  ends_evolve now =
      fewer_evolves b b.clock b.tokens (keep (still_waits now b.waiting) b.waiting) (same_fewer b.tokens)
      (later_fewer b now)

-- ---- a response stored under new identifiers leaves a sound broker sound

module _ (b : Broker) (t : Text) (w : Waiting) where
  abbrev after : Broker
  after = stored b t w

  -- an identifier is that of the new wrapping token, that of its accessor, or it was there
  filled : HasTwoMore b (wrapping_token t) (token_identifier t) (wrapping_accessor t) w.accessor after
  filled (wrapping_token u) i e =
      let v = mapped (λ _. token_identifier u) (get after.waiting u) i e in
      put_is b.waiting t w u v.0 _ v.1
      (λ ut vw. inr (inl (ap wrapping_token ut, v.2 ∙ ap token_identifier ut)))
      (λ old. inl (ap (option_map (λ _. token_identifier u)) old ∙ ap Some (sym v.2)))
  filled (wrapping_accessor u) i e =
      let v = mapped (λ (z : Waiting). z.accessor) (get after.waiting u) i e in
      put_is b.waiting t w u v.0 _ v.1
      (λ ut vw. inr (inr (ap wrapping_accessor ut, v.2 ∙ ap (λ (z : Waiting). z.accessor) vw)))
      (λ old. inl (ap (option_map (λ (z : Waiting). z.accessor)) old ∙ ap Some (sym v.2)))
  filled (token u) i e = inl e
  filled (accessor u) i e = inl e
  filled (lease u lease_id) i e = inl e
  filled (credential u lease_id) i e = inl e

  module _ (forms : Forms) (who : Option Text) (sound : Sound forms who b) (may : MayBeStored b t w) where
    -- no response that waited has the origin of the new one
    new_origin : (u : Text) (v : Waiting) → get b.waiting u ≡ Some v → v.origin ≢ w.origin
    new_origin u v is one = elim (may.origin) [
      | inl own ↦ sound.identifiers.origins_used u v is (ap (get b.used) (one ∙ own) ∙ may.token_is_new)
      | inr gone ↦ gone.gone u v is one
    ]

    used_origin : IsUsed after w.origin
    used_origin = elim (may.origin) [
      | inl own ↦ subst (IsUsed after) (sym own) (first_marked b (token_identifier t) w.accessor)
      | inr gone ↦ still_marked b (token_identifier t) w.accessor w.origin gone.used
    ]

    token_is_identifier : IsIdentifier (token_identifier t)
    token_is_identifier = subst IsIdentifier (sym (ap (drop 4) may.sound.name.2)) may.sound.name.1

    -- a response stored under new identifiers leaves a sound broker sound
    pub store_sound : Sound forms who after
    store_sound = record {
      clock = sound.clock;
      tokens = sound.tokens;
      secrets = sound.secrets;
      waiting = record {
        each = λ u v is.
            put_is b.waiting t w u v _ is
            (λ ut vw. subst (λ z. IsSoundWaiting z v) (sym ut) (subst (IsSoundWaiting t) (sym vw) may.sound))
            (λ old. sound.waiting.each u v old);
        one_origin = λ u q v x is js one.
            put_is b.waiting t w u v (u ≡ q) is
            (λ ut vw. put_is b.waiting t w q x (u ≡ q) js (λ qt xw. ut ∙ sym qt)
            (λ old. absurd (new_origin q x old (sym one ∙ ap (λ (z : Waiting). z.origin) vw))))
            (λ old. put_is b.waiting t w q x (u ≡ q) js
            (λ qt xw. absurd (new_origin u v old (one ∙ ap (λ (z : Waiting). z.origin) xw)))
            (λ other. sound.waiting.one_origin u q v x old other one));
      };
      mounts = sound.mounts;
      roles = sound.roles;
      policies = sound.policies;
      identifiers = sound_with_two b (token_identifier t) w.accessor (wrapping_token t) (wrapping_accessor t) after refl
          sound.identifiers may.token_is_new may.accessor_is_new may.differ filled token_is_identifier
          may.sound.accessor
          (λ u v is. put_is b.waiting t w u v (IsUsed after v.origin) is
          (λ ut vw. subst (λ (z : Waiting). IsUsed after z.origin) (sym vw) used_origin)
          (λ old. still_marked b (token_identifier t) w.accessor v.origin (sound.identifiers.origins_used u v old)));
      unspent = sound.unspent;
    }

-- ---- and so does one that moves, and what is dropped

module _ (forms : Forms) (who : Option Text) (b : Broker) (sound : Sound forms who b) where
  -- a response that moves to new identifiers
  pub rewrap_sound : (t u a : Text) (now : ℕ) (w : Waiting) → get b.waiting t ≡ Some w → IsMoment now → IsTokenText u
      → IsIdentifier a → IsNew b (token_identifier u) → IsNew b a → token_identifier u ≢ a
      → Sound forms who (stored (drop_waiting b t) u (moved a now w))
  rewrap_sound t u a now w is moment name identifier new_token new_accessor differ =
      let s = sound.waiting.each t w is in
      store_sound (drop_waiting b t) u (moved a now w) forms who (drop_sound b t forms who sound) (record {
        sound = record {
          name = name;
          accessor = identifier;
          created = moment;
          waits = s.waits;
          ttl = s.ttl;
          path = s.path;
          origin = s.origin;
          reply = s.reply;
          short = s.short;
        };
        token_is_new = new_token;
        accessor_is_new = new_accessor;
        differ = differ;
        origin = inr (drop_ends_origin b t sound.identifiers sound.waiting w is);
      })

  -- one that is dropped by its accessor
  pub drop_accessor_sound : (a : Text) → Sound forms who (drop_accessor b a)
  drop_accessor_sound a = by (find_accessor b a)
    where
      by : (o : Option Text) → Sound forms who (option_map_or (drop_waiting b) o b)
      by None = sound
      by (Some t) = drop_sound b t forms who sound

  -- and those that have come to their end
  pub ends_sound : (now : ℕ) → Sound forms who (without_ended b now)
  ends_sound now =
      fewer_sound forms who who b sound b.clock b.tokens (keep (still_waits now b.waiting) b.waiting) sound.clock
      (tree_of forms who who b sound) (same_fewer b.tokens) (later_fewer b now) sound.tokens.each sound.unspent
