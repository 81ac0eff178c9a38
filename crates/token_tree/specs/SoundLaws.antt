-- A renewed token and a new one leave a sound broker sound, and let it evolve.
use Rattle.std.specs.Prelude.{◌≡◌, ◌≢◌, ℕ, zero, suc, true, false, cond, Option, Some, None, option_map, is_none, drop}
use Rattle.records.specs.Words.{option_and_then, get-empty, refl, sym, ◌∙◌, ap, subst, inl, inr, false_from_ne_true}
use Rattle.records.specs.Words.{none-some, same_Some, Text, text_cmp, same, get, put, len, empty, Token, Tokens, Lease}
use Rattle.records.specs.Words.{Broker, Evolves, IsNew, ends_within, ParentsExist, ChainsEnd, token, accessor, lease}
use Rattle.records.specs.Words.{credential, wrapping_token, wrapping_accessor, lease_of, token_identifier}
use Rattle.records.specs.Words.{lease_identifier, Forms, Sound, IsEnd, IsIdentifier, IsSoundToken, IsEdit, edit_evolves}
use Rattle.records.specs.Words.{edit_sound, unspent_still, edited_sound, ends_above, ends_at, ends_in_time, get-put}
use Rattle.records.specs.Words.{get-put_self, HasTwoMore, still_marked, sound_with_two, mapped, put_is, same_true}
use Rattle.token_tree.specs.Tokens.{with_end, renew, created, MayBeMade}

-- ---- a renewal

-- another end keeps the parent, the accessor and the leases
ends_edit : (ends : ℕ) → IsEdit (with_end ends)
ends_edit ends = record {
  same_parent = λ x. refl;
  less = λ x. record { same_accessor = refl; fewer_leases = λ _ _ e. e };
}

-- a renewal lets the broker evolve
pub renew_evolves : (b : Broker) (t : Text) (ends : ℕ) → Evolves b (renew b t ends)
renew_evolves b t ends = edit_evolves b t (with_end ends) (ends_edit ends)

-- a renewal by an end in range leaves a sound broker sound
pub renew_sound : (forms : Forms) (who : Option Text) (b : Broker) (t : Text) (ends : ℕ) → Sound forms who b
    → IsEnd ends → Sound forms who (renew b t ends)
renew_sound forms who b t ends sound good =
    edit_sound b t (with_end ends) (ends_edit ends) forms who who sound
    (λ q x s. edited_sound forms q x s x.parent (Some ends) x.uses_left x.cubbyhole x.leases
    (λ m e. subst IsEnd (same_Some _ _ e) good) s.uses_left s.cubbyhole s.leases)
    (unspent_still b.tokens t (with_end ends) who (λ x. refl) sound.unspent)

-- ---- one more token

module _ (ts : Tokens) (t : Text) (x : Token) where
  abbrev more : Tokens
  more = put ts t x

  there : (q : Text) → same q t ≡ false → get more q ≡ get ts q
  there q other = get-put ts t x q ∙ ap (λ v. cond v (Some x) (get ts q)) other

  module _ (absent : get ts t ≡ None) (parents : ParentsExist ts)
      (parent : (p : Text) → x.parent ≡ Some p → get ts p ≢ None) where
    apart : (p : Text) → get ts p ≢ None → same p t ≡ false
    apart p stands = false_from_ne_true (same p t) (λ e. stands (ap (get ts) (same_true p t e) ∙ absent))

    stands_still : (p : Text) → get ts p ≢ None → get more p ≢ None
    stands_still p stands none = stands (sym (there p (apart p stands)) ∙ none)

    more_parents : ParentsExist more
    more_parents q p y is up none =
        put_is ts t x q y ⊥ is
        (λ qt yx. stands_still p (parent p (ap (λ (z : Token). z.parent) (sym yx) ∙ up)) none)
        (λ old. stands_still p (parents q p y old up) none)

    -- the chains of the others are as before
    within : (n : ℕ) (q : Text) → same q t ≡ false → ends_within n ts q ≡ true → ends_within n more q ≡ true
    within zero q other h = ap is_none (there q other) ∙ h
    within (suc n) q other h =
        ap (λ o. ends_at n more o) (there q other)
        ∙ elim (get ts q) as (λ o. get ts q ≡ o → ends_at n ts o ≡ true → ends_at n more o ≡ true) [
          | None ↦ λ _ _. refl
          | Some y ↦ λ is g. elim (y.parent)
              as (λ p. y.parent ≡ p → ends_above n ts p ≡ true → ends_above n more p ≡ true) [
                | None ↦ λ _ _. refl
                | Some p ↦ λ up k. within n p (apart p (parents q p y is up)) k
              ] refl g
        ] refl h

    more_chains : ChainsEnd ts → ChainsEnd more
    more_chains chains q =
        elim (same q t) as (λ v. same q t ≡ v → ends_within (len more) more q ≡ true) [
          | true ↦ λ at. ends_in_time more q (suc (len ts)) (subst (λ z. ends_within (suc (len ts)) more z ≡ true)
              (sym (same_true q t at)) own)
          | false ↦ λ other. ends_in_time more q (len ts) (within (len ts) q other (chains q))
        ] refl
      where
        own : ends_within (suc (len ts)) more t ≡ true
        own =
            ap (λ o. ends_at (len ts) more o) (get-put_self ts t x)
            ∙ elim (x.parent) as (λ p. x.parent ≡ p → ends_above (len ts) more p ≡ true) [
              | None ↦ λ _. refl
              | Some p ↦ λ up. within (len ts) p (apart p (parent p up)) (chains p)
            ] refl

-- ---- a creation

module _ (b : Broker) (t : Text) (x : Token) where
  abbrev after : Broker
  after = created b t x

  module _ (no_lease : x.leases ≡ empty) where
    lease_before : (u lease_id : Text) (l : Lease) → lease_of after u lease_id ≡ Some l → lease_of b u lease_id ≡ Some l
    lease_before u lease_id l e =
        let y = then_mapped (get after.tokens u) e in
        put_is b.tokens t x u y.0 (lease_of b u lease_id ≡ Some l) y.1
        (λ ut yx. absurd (none-some _ (sym (ap (λ m. get m lease_id) (ap (λ (z : Token). z.leases) yx ∙ no_lease)
        ∙ get-empty text_cmp lease_id) ∙ y.2)))
        (λ old. ap (option_and_then (λ (z : Token). get z.leases lease_id)) old ∙ y.2)
      where
        then_mapped : (o : Option Token) → option_and_then (λ (z : Token). get z.leases lease_id) o ≡ Some l
            → (y : Token) × (o ≡ Some y) × (get y.leases lease_id ≡ Some l)
        then_mapped None h = absurd (none-some _ h)
        then_mapped (Some y) h = (y, refl, h)

    -- a token made under a new identifier lets the broker evolve
    pub create_evolves : IsNew b (token_identifier t) → Evolves b after
    create_evolves new = record {
      used = still_marked b (token_identifier t) x.accessor;
      tokens = λ u y is.
          put_is b.tokens t x u y _ is (λ ut yx. inr (subst (λ z. IsNew b (token_identifier z)) (sym ut) new))
          (λ old. inl (λ none. absurd (none-some _ (sym none ∙ old))));
      leases = λ u lease_id l e. inl (l, lease_before u lease_id l e, refl);
      wrapping_tokens = λ u w is. inl (λ none. absurd (none-some _ (sym none ∙ is)));
      waiting = λ u w is. inl (u, w, is, refl, refl);
    }

  module _ (forms : Forms) (who : Option Text) (sound : Sound forms who b) (made : MayBeMade forms b t x) where
    absent : get b.tokens t ≡ None
    absent = by (get b.tokens t) (λ y is. is)
      where
        by : (o : Option Token) → ((y : Token) → o ≡ Some y → get b.tokens t ≡ Some y) → o ≡ None
        by None is = refl
        by (Some y) is =
            absurd (sound.identifiers.all_used (token t) (token_identifier t)
            (ap (option_map (λ (z : Token). token_identifier t)) (is y refl)) made.token_is_new)

    -- an identifier is that of the new token, that of its accessor, or it was there
    filled : HasTwoMore b (token t) (token_identifier t) (accessor t) x.accessor after
    filled (token u) i e =
        let y = mapped (λ _. token_identifier u) (get after.tokens u) i e in
        put_is b.tokens t x u y.0 _ y.1
        (λ ut yx. inr (inl (ap token ut, y.2 ∙ ap token_identifier ut)))
        (λ old. inl (ap (option_map (λ _. token_identifier u)) old ∙ ap Some (sym y.2)))
    filled (accessor u) i e =
        let y = mapped (λ (z : Token). z.accessor) (get after.tokens u) i e in
        put_is b.tokens t x u y.0 _ y.1
        (λ ut yx. inr (inr (ap accessor ut, y.2 ∙ ap (λ (z : Token). z.accessor) yx)))
        (λ old. inl (ap (option_map (λ (z : Token). z.accessor)) old ∙ ap Some (sym y.2)))
    filled (lease u lease_id) i e =
        let l = mapped (λ _. lease_identifier lease_id) (lease_of after u lease_id) i e in
        inl (ap (option_map (λ _. lease_identifier lease_id)) (lease_before made.no_lease u lease_id l.0 l.1)
        ∙ ap Some (sym l.2))
    filled (credential u lease_id) i e =
        let l = mapped (λ (z : Lease). z.credential) (lease_of after u lease_id) i e in
        inl (ap (option_map (λ (z : Lease). z.credential)) (lease_before made.no_lease u lease_id l.0 l.1)
        ∙ ap Some (sym l.2))
    filled (wrapping_token u) i e = inl e
    filled (wrapping_accessor u) i e = inl e

    token_is_identifier : IsIdentifier (token_identifier t)
    token_is_identifier = subst IsIdentifier (sym (ap (drop 4) made.sound.name.2)) made.sound.name.1

    -- a token made under new identifiers leaves a sound broker sound
    pub create_sound : Sound forms who after
    create_sound = record {
      clock = sound.clock;
      tokens = record {
        each = λ u y is.
            put_is b.tokens t x u y _ is
            (λ ut yx. subst (λ z. IsSoundToken forms z y) (sym ut) (subst (IsSoundToken forms t) (sym yx) made.sound))
            (λ old. sound.tokens.each u y old);
        parents_exist = more_parents b.tokens t x absent sound.tokens.parents_exist made.parent;
        chains_end = more_chains b.tokens t x absent sound.tokens.parents_exist made.parent sound.tokens.chains_end;
      };
      secrets = sound.secrets;
      waiting = sound.waiting;
      mounts = sound.mounts;
      roles = sound.roles;
      policies = sound.policies;
      identifiers = sound_with_two b (token_identifier t) x.accessor (token t) (accessor t) after refl
          sound.identifiers made.token_is_new made.accessor_is_new made.differ filled token_is_identifier
          made.sound.accessor
          (λ u w e. still_marked b (token_identifier t) x.accessor w.origin (sound.identifiers.origins_used u w e));
      unspent = λ u y is zero.
          put_is b.tokens t x u y _ is
          (λ ut yx. absurd (made.unspent (ap (λ (z : Token). z.uses_left) (sym yx) ∙ zero)))
          (λ old. sound.unspent u y old zero);
    }
