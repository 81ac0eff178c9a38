-- What storing, moving and dropping a response, and expiry, make of the responses that wait.
use Rattle.std.proofs.Common.{◌≡◌, ◌≢◌, ◌⊎◌, ℕ, true, false, cond, Option, Some, None, refl, sym, ◌∙◌, ap, subst, inl}
use Rattle.records.specs.Words.{option_map_or, inr, Text, same, get, without, keep, Broker, Waiting, IsTakenOut}
use Rattle.records.specs.Words.{WaitedBefore, token_identifier, SoundIdentifiers, drop_waiting, WaitFewer, get-put}
use Rattle.records.specs.Words.{get-put_self, get-without, get-without_self, without_is, same_map, found_or_not, put_is}
use Rattle.records.specs.Words.{kept_get, drop_takes_out, same_true}
use Rattle.broker_types.specs.TextLaws.{same_false}
use Rattle.wrapping.specs.Wrapping.{AddsNone, find_accessor, with_waiting, moved, rewrap, drop_accessor, still_waits}
use Rattle.wrapping.specs.Wrapping.{without_ended}

-- ---- a response goes alone

module _ (b : Broker) (t : Text) where
  -- the others stay
  pub others_stay : (q : Text) → q ≢ t → get (drop_waiting b t).waiting q ≡ get b.waiting q
  others_stay q differ =
      get-without b.waiting t q ∙ ap (λ v. cond v None (get b.waiting q)) (same_false q t differ)

  -- if it does not wait, nothing changes
  pub drop_unknown : get b.waiting t ≡ None → drop_waiting b t ≡ b
  drop_unknown none =
      ap (λ ws. record b { waiting = ws }) (same_map (without b.waiting t) b.waiting (λ q. get-without b.waiting t q
      ∙ elim (same q t) as (λ s. same q t ≡ s → cond s None (get b.waiting q) ≡ get b.waiting q) [
        | true ↦ λ at. sym (ap (get b.waiting) (same_true q t at) ∙ none)
        | false ↦ λ _. refl
      ] refl))

-- ---- a response moves whole

module _ (b : Broker) (t u a : Text) (now : ℕ) where
  abbrev to : Waiting → Broker
  to w = with_waiting (drop_waiting b t) u (moved a now w)

  -- what waits is taken out, and stored under its new wrapping token
  pub rewrap_is : (w : Waiting) → get b.waiting t ≡ Some w → rewrap b t u a now ≡ to w
  rewrap_is w is = ap (λ o. option_map_or to o b) is

  -- if nothing waits, nothing changes
  pub rewrap_unknown : get b.waiting t ≡ None → rewrap b t u a now ≡ b
  rewrap_unknown none = ap (λ o. option_map_or to o b) none

  -- no identifier is marked as given out
  pub rewrap_marks_none : (rewrap b t u a now).used ≡ b.used
  rewrap_marks_none = elim (found_or_not (get b.waiting t)) [
    | inl none ↦ ap (λ (c : Broker). c.used) (rewrap_unknown none)
    | inr w ↦ ap (λ (c : Broker). c.used) (rewrap_is w.0 w.1)
  ]

  -- it waits under its new wrapping token
  pub moved_waits : (w : Waiting) → get b.waiting t ≡ Some w
      → get (rewrap b t u a now).waiting u ≡ Some (moved a now w)
  moved_waits w is =
      ap (λ (c : Broker). get c.waiting u) (rewrap_is w is) ∙ get-put_self (without b.waiting t) u (moved a now w)

  gone_from : (w : Waiting) → u ≢ t → get (to w).waiting t ≡ None
  gone_from w differ =
      get-put (without b.waiting t) u (moved a now w) t
      ∙ ap (λ v. cond v (Some (moved a now w)) (get (without b.waiting t) t)) (same_false t u (λ e. differ (sym e)))
      ∙ get-without_self b.waiting t

  -- and not under the old one
  pub moved_is_gone : u ≢ t → get b.waiting t ≢ None → get (rewrap b t u a now).waiting t ≡ None
  moved_is_gone differ waits = elim (found_or_not (get b.waiting t)) [
    | inl none ↦ absurd (waits none)
    | inr w ↦ ap (λ (c : Broker). get c.waiting t) (rewrap_is w.0 w.1) ∙ gone_from w.0 differ
  ]

  -- which is taken out then
  pub moved_is_taken_out : SoundIdentifiers b → u ≢ t → get b.waiting t ≢ None → IsTakenOut (rewrap b t u a now) t
  moved_is_taken_out sound differ waits = record {
    used = λ none. (drop_takes_out b t sound waits).used
        (ap (λ used. get used (token_identifier t)) (sym rewrap_marks_none) ∙ none);
    gone = moved_is_gone differ waits;
  }

  -- the others wait as before
  pub others_wait : (q : Text) → q ≢ t → q ≢ u → get (rewrap b t u a now).waiting q ≡ get b.waiting q
  others_wait q from onto = elim (found_or_not (get b.waiting t)) [
    | inl none ↦ ap (λ (c : Broker). get c.waiting q) (rewrap_unknown none)
    | inr w ↦
        ap (λ (c : Broker). get c.waiting q) (rewrap_is w.0 w.1)
        ∙ get-put (without b.waiting t) u (moved a now w.0) q
        ∙ ap (λ v. cond v (Some (moved a now w.0)) (get (without b.waiting t) q)) (same_false q u onto)
        ∙ others_stay b t q from
  ]

-- ---- no response is added but the one that is stored

module _ (b : Broker) where
  -- what is left of the responses waited before
  pub later_fewer : (now : ℕ) → WaitFewer b.waiting (keep (still_waits now b.waiting) b.waiting)
  later_fewer now q w e = (kept_get (still_waits now b.waiting) b.waiting q w e).0

  -- a response that waits after one is stored waited before, or is that one
  pub store_adds_one : (t q : Text) (w v : Waiting) → get (with_waiting b t w).waiting q ≡ Some v
      → WaitedBefore b v ⊎ ((q ≡ t) × (v ≡ w))
  store_adds_one t q w v is =
      put_is b.waiting t w q v _ is (λ qt vw. inr (qt, vw)) (λ old. inl (q, v, old, refl, refl))

  adds_itself : AddsNone b b
  adds_itself q v is = (q, v, is, refl, refl)

  -- a response that moves adds none
  pub rewrap_adds_none : (t u a : Text) (now : ℕ) → AddsNone b (rewrap b t u a now)
  rewrap_adds_none t u a now = elim (found_or_not (get b.waiting t)) [
    | inl none ↦ subst (AddsNone b) (sym (rewrap_unknown b t u a now none)) adds_itself
    | inr w ↦ subst (AddsNone b) (sym (rewrap_is b t u a now w.0 w.1)) (λ q v is.
        put_is (without b.waiting t) u (moved a now w.0) q v _ is
        (λ qu vm. (t, w.0, w.1, ap (λ (z : Waiting). z.origin) vm, ap (λ (z : Waiting). z.reply) vm))
        (λ old. (q, v, (without_is b.waiting t q v old).1, refl, refl)))
  ]

  -- nor does one that is dropped
  pub drop_adds_none : (t : Text) → AddsNone b (drop_waiting b t)
  drop_adds_none t q v is = (q, v, (without_is b.waiting t q v is).1, refl, refl)

  -- also by its accessor
  pub drop_accessor_adds_none : (a : Text) → AddsNone b (drop_accessor b a)
  drop_accessor_adds_none a = by (find_accessor b a)
    where
      by : (o : Option Text) → AddsNone b (option_map_or (drop_waiting b) o b)
      by None = adds_itself
      by (Some t) = drop_adds_none t

  -- nor do those that have come to their end
  pub ends_add_none : (now : ℕ) → AddsNone b (without_ended b now)
  ends_add_none now q v is = (q, v, later_fewer now q v is, refl, refl)
