-- Who is served: a token whose policies grant what was asked, and nobody else.
use Rattle.std.proofs.Common.{◌≡◌, ◌⊎◌, if◌then◌else◌, Bool, true, false, Option, Some, None, option_map, refl, sym, ap}
use Rattle.broker_model.specs.Words.{◌∙◌, subst, inl, inr, none-some, same_Some, Text, same, same_self, get, without}
use Rattle.broker_model.specs.Words.{get-change, Response, refused, found_or_not, one_less, Token, Outcome}
use Rattle.broker_model.specs.Words.{permission_denied, is_open, step}
use Rattle.histories.specs.Words.{AllServeAllowed, IsAllowed, Asking, clocked, spent_by, Calls, HasNoCaller}
use Rattle.histories.specs.Words.{HasResponse, IsDenial, IsDenied, PoliciesDecide, is_granted}
use Rattle.histories.proofs.Requests.{asked_at}

-- a denial is one by its response
denied_so : (r : Response) → r ≡ refused permission_denied → IsDenied r
denied_so r is = subst IsDenied (sym is) (record { forbidden = refl; is = refl })

module _ (decide : PoliciesDecide) (a : Asking) (is : a.outcome ≡ step a.broker a.moment a.words a.ask) where
  nobody_served : HasNoCaller (clocked a) a.ask → IsDenial (clocked a) a.outcome
  nobody_served h = subst (IsDenial (clocked a)) (sym is) (decide.nobody a.broker a.moment a.words a.ask h)

  response_left : (t : Text) → HasResponse (clocked a) a.ask t
      → IsDenial (record (clocked a) { waiting = without (clocked a).waiting t }) a.outcome
  response_left t h =
      subst (IsDenial (record (clocked a) { waiting = without (clocked a).waiting t })) (sym is)
      (decide.response a.broker a.moment a.words a.ask t h)

  abbrev Decided : Type 0
  Decided = IsDenied a.outcome.response ⊎ IsAllowed a

  by_policies : (c : Text) (x : Token) → Calls (clocked a) a.ask c x → (v : Bool)
      → is_granted (spent_by a c) c x a.ask ≡ v → Decided
  by_policies c x calls true granted =
      inr (record { caller = c; own = x; calls = calls; granted = granted })
  by_policies c x calls false refused_ =
      inl (denied_so a.outcome.response (ap (λ (o : Outcome). o.response) is
      ∙ decide.denied a.broker a.moment a.words a.ask c x calls refused_))

  module _ (closed : is_open a.ask ≡ false) where
    by_token : (t : Text) → a.ask.token ≡ Some t → Decided
    by_token t client = elim (found_or_not (get (clocked a).waiting t)) [
      | inr w ↦ inl (response_left t (record {
        closed = closed;
        client = client;
        waits = λ none. none-some _ (sym none ∙ w.1);
      })).denied
      | inl no_wait ↦ elim (found_or_not (get (clocked a).tokens t)) [
        | inl none ↦ inl (nobody_served (record {
          closed = closed;
          no_token = λ u other. ap (get (clocked a).tokens) (same_Some _ _ (sym other ∙ client)) ∙ none;
          no_response = λ u other. ap (get (clocked a).waiting) (same_Some _ _ (sym other ∙ client)) ∙ no_wait;
        })).denied
        | inr x ↦
            let calls : Calls (clocked a) a.ask t (one_less x.0) = record {
              client = client;
              closed = closed;
              no_response = no_wait;
              there = get-change (clocked a).tokens t one_less t
                  ∙ ap (option_map (λ (z : Token). if same t t then one_less z else z)) x.1
                  ∙ ap (λ v. Some (if v then one_less x.0 else x.0)) (same_self t);
            } in
            by_policies t (one_less x.0) calls (is_granted (spent_by a t) t (one_less x.0) a.ask) refl
      ]
    ]

    decided : (o : Option Text) → a.ask.token ≡ o → Decided
    decided None none = inl (nobody_served (record {
      closed = closed;
      no_token = λ t some. absurd (none-some _ (sym none ∙ some));
      no_response = λ t some. absurd (none-some _ (sym none ∙ some));
    })).denied
    decided (Some t) some = by_token t some

pub serves_allowed : PoliciesDecide → AllServeAllowed
serves_allowed decide b history h = record {
  allowed = λ i a at closed. decided decide a (asked_at b history i a h at).outcome closed a.ask.token refl;
  nobody = λ i a at none. nobody_served decide a (asked_at b history i a h at).outcome none;
  response = λ i a t at waits. response_left decide a (asked_at b history i a h at).outcome t waits;
}
