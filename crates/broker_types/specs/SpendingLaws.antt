-- Laws of spending a use, of ending a spent caller and of dropping a waiting response: a sound broker stays sound, and
-- evolves.
use Rattle.std.specs.Prelude.{◌≡◌, ◌≢◌, ◌==◌, if◌then◌else◌, ◌⊎◌, ◌<◌, ◌^◌, ◌-◌, true, false, not, Option, Some, None}
use Rattle.broker_types.specs.Words.{option_map, option_map_or, refl, sym, ◌∙◌, ap, subst, inl, inr, same_Some}
use Rattle.broker_types.specs.Words.{none-some, sub-le, lt_of_le_of_lt, false≢true, same, Text, without, get}
use Rattle.broker_types.specs.Words.{SoundWaiting, Forms, SoundIdentifiers, Sound, Unspent, IsSoundToken, spend}
use Rattle.broker_types.specs.Words.{one_less, drop_waiting, is_spent, end_spent, IsTakenOut, OriginIsGone, Evolves}
use Rattle.broker_types.specs.Words.{Token, Tokens, is_under, Broker, Waiting, revoke, wrapping_token, token_identifier}
use Rattle.broker_types.specs.Lineage as lineage
use Rattle.broker_types.specs.Laws.{EndTokens}
use Rattle.broker_types.specs.TextLaws.{same_self, same_true}
use Rattle.broker_types.specs.MapLaws.{valued_is, without_is, get-without_self}
use Rattle.broker_types.specs.OptionLaws.{mapped, found_or_not}
use Rattle.broker_types.specs.TreeLaws.{under_self}
use Rattle.broker_types.specs.EditLaws.{IsEdit, edit_evolves, edit_sound}
use Rattle.broker_types.specs.FewerLaws.{WaitFewer, fewer_evolves, edited_sound, fewer_sound, tree_of, same_fewer}
use Rattle.broker_types.specs.RemovalLaws.{revoke_evolves, revoke_ends, revoke_sound}
use Rattle.broker_types.specs.SearchLaws.{kept_get}

-- ---- a use is spent

-- a token with one use less keeps its parent, its accessor and its leases
spend_edits : IsEdit one_less
spend_edits = record {
  same_parent = λ x. refl;
  less = λ x. record { same_accessor = refl; fewer_leases = λ _ _ e. e };
}

-- spending a use lets a broker evolve
pub spend_evolves : (b : Broker) (c : Text) → Evolves b (spend b c)
spend_evolves b c = edit_evolves b c one_less spend_edits

module _ (forms : Forms) (b : Broker) (c : Text) (sound : Sound forms None b) where
  less_sound : (q : Text) (x : Token) → IsSoundToken forms q x → IsSoundToken forms q (one_less x)
  less_sound q x s =
      edited_sound forms q x s x.parent x.ends (one_less x).uses_left x.cubbyhole x.leases
      s.ends (λ n e. let m = mapped (λ n. n - 1) x.uses_left n e in
      subst (λ k. k < 2 ^ 64) (sym m.2) (lt_of_le_of_lt (sub-le m.0 1) (s.uses_left m.0 m.1)))
      s.cubbyhole s.leases

  only_caller : (q : Text) (x : Token) → get b.tokens q ≡ Some x
      → (if same q c then one_less x else x).uses_left ≡ Some 0 → Some c ≡ Some q
  only_caller q x is =
      elim (same q c) as (λ v. same q c ≡ v → (if v then one_less x else x).uses_left ≡ Some 0 → Some c ≡ Some q) [
        | true ↦ λ s _. ap Some (sym (same_true q c s))
        | false ↦ λ _ zero. absurd (none-some _ (sound.unspent q x is zero))
      ] refl

  -- spending a use of the caller leaves a sound broker sound, but for the caller, which may have spent its last
  pub spend_sound : Sound forms (Some c) (spend b c)
  spend_sound =
      edit_sound b c one_less spend_edits forms None (Some c) sound less_sound
      (λ q y e zero. let x = valued_is (λ q x. if same q c then one_less x else x) b.tokens q y e in
      only_caller q x.0 x.1 (ap (λ (z : Token). z.uses_left) (sym x.2) ∙ zero))

-- ---- a caller that has spent its last use ends

module _ (b : Broker) where
  -- ending a spent caller is revocation, or changes nothing
  ended_or_same : (who : Option Text) → ((c : Text) × (end_spent b who ≡ revoke b c)) ⊎ (end_spent b who ≡ b)
  ended_or_same None = inr refl
  ended_or_same (Some c) =
      elim (option_map_or is_spent (get b.tokens c) false)
      as (λ v. ((d : Text) × ((if v then revoke b c else b) ≡ revoke b d)) ⊎ ((if v then revoke b c else b) ≡ b)) [
        | true ↦ inl (c, refl)
        | false ↦ inr refl
      ]

  -- a broker evolves from itself
  pub evolves_self : Evolves b b
  evolves_self = fewer_evolves b b.clock b.tokens b.waiting (same_fewer b.tokens) (λ q w e. e)

  -- ending a spent caller lets a broker evolve
  pub end_spent_evolves : (who : Option Text) → Evolves b (end_spent b who)
  end_spent_evolves who = elim (ended_or_same who) [
    | inl r ↦ subst (Evolves b) (sym r.1) (revoke_evolves b r.0)
    | inr e ↦ subst (Evolves b) (sym e) evolves_self
  ]

  -- the tokens that go with a spent caller have ended
  pub end_spent_ends : (who : Option Text) → SoundIdentifiers b → EndTokens b (end_spent b who)
  end_spent_ends who sound = elim (ended_or_same who) [
    | inl r ↦ subst (EndTokens b) (sym r.1) (revoke_ends b sound r.0)
    | inr e ↦ subst (EndTokens b) (sym e) (λ q was gone. absurd (was gone))
  ]

module _ (forms : Forms) where
  nobody_spent : (who : Option Text) (b : Broker) → Sound forms who b → Unspent None b.tokens → Sound forms None b
  nobody_spent who b sound =
      fewer_sound forms who None b sound b.clock b.tokens b.waiting sound.clock (tree_of forms who who b sound)
      (same_fewer b.tokens) (λ q w e. e) sound.tokens.each

  -- the revoked token is gone
  revoked_self : (ts : Tokens) (t : Text) (x : Token) → get (lineage.without_descendants ts t) t ≡ Some x → ⊥
  revoked_self ts t x is =
      let k = kept_get (λ q. not (is_under ts q t)) ts t x is in
      let under : is_under ts t t ≡ true = under_self ts t (λ none. absurd (none-some _ (sym none ∙ k.0))) in
      absurd (false≢true (sym (ap not under) ∙ k.1))

  -- once a caller that has spent its last use is ended, no token has
  pub end_spent_sound : (who : Option Text) (b : Broker) → Sound forms who b → Sound forms None (end_spent b who)
  end_spent_sound None b sound = sound
  end_spent_sound (Some c) b sound =
      elim (option_map_or is_spent (get b.tokens c) false)
      as (λ v. option_map_or is_spent (get b.tokens c) false ≡ v → Sound forms None (if v then revoke b c else b)) [
        | true ↦ λ _.
            let left = revoke_sound forms (Some c) b sound c in
            nobody_spent (Some c) (revoke b c) left (λ t x is zero.
            let one : t ≡ c = sym (same_Some c t (left.unspent t x is zero)) in
            absurd (revoked_self b.tokens c x
            (subst (λ q. get (lineage.without_descendants b.tokens c) q ≡ Some x) one is)))
        | false ↦ λ unspent.
            nobody_spent (Some c) b sound (λ t x is zero.
            let one : t ≡ c = sym (same_Some c t (sound.unspent t x is zero)) in
            let here : get b.tokens c ≡ Some x = subst (λ q. get b.tokens q ≡ Some x) one is in
            absurd (false≢true
            (sym unspent ∙ ap (λ o. option_map_or is_spent o false) here
            ∙ ap (λ o. option_map_or (λ n. n == 0) o false) zero)))
      ] refl

-- ---- a waiting response is dropped

module _ (b : Broker) (t : Text) where
  fewer_wait : WaitFewer b.waiting (without b.waiting t)
  fewer_wait q w e = (without_is b.waiting t q w e).1

  -- dropping a waiting response lets a broker evolve
  pub drop_evolves : Evolves b (drop_waiting b t)
  drop_evolves = fewer_evolves b b.clock b.tokens (without b.waiting t) (same_fewer b.tokens) fewer_wait

  -- and leaves a sound broker sound
  pub drop_sound : (forms : Forms) (who : Option Text) → Sound forms who b → Sound forms who (drop_waiting b t)
  drop_sound forms who sound =
      fewer_sound forms who who b sound b.clock b.tokens (without b.waiting t) sound.clock
      (tree_of forms who who b sound) (same_fewer b.tokens) fewer_wait sound.tokens.each sound.unspent

  -- its wrapping token is taken out
  pub drop_takes_out : SoundIdentifiers b → get b.waiting t ≢ None → IsTakenOut (drop_waiting b t) t
  drop_takes_out sound waits = record {
    used = elim (found_or_not (get b.waiting t)) [
      | inl none ↦ absurd (waits none)
      | inr w ↦ sound.all_used (wrapping_token t) (token_identifier t) (ap (option_map (λ _. token_identifier t)) w.1)
    ];
    gone = get-without_self b.waiting t;
  }

  -- and the origin of its response is gone
  pub drop_ends_origin : SoundIdentifiers b → SoundWaiting b.waiting → (w : Waiting) → get b.waiting t ≡ Some w
      → OriginIsGone (drop_waiting b t) w.origin
  drop_ends_origin sound waiting w is = record {
    used = sound.origins_used t w is;
    gone = λ u v e same_origin.
        let other = without_is b.waiting t u v e in
        let one : u ≡ t = waiting.one_origin u t v w other.1 is same_origin in
        false≢true (sym other.0 ∙ ap (same u) (sym one) ∙ same_self u);
  }
