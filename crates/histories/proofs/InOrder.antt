-- What holds of each way that a request can go, holds of the request.
use Rattle.std.proofs.Common.{◌≡◌, if◌then◌else◌, ℕ, Bool, true, false, Option, Some, None, Result, is_some, refl, sym}
use Rattle.broker_model.specs.Words.{◌∙◌, ap, inl, inr, none-some, same_Some, Text, get, Broker, at_moment, Names, Done}
use Rattle.broker_model.specs.Words.{spend, drop_waiting, Verb, Refusal, not_there, Traits, Outcome, Wrapped, denied}
use Rattle.broker_model.specs.Words.{finish, for_caller, ordered, serve, Request}
use Rattle.histories.proofs.OrderCases.{IsCaller, spent}

module _ {Command : Type 0} (permits : Broker → Option Text → Verb → Text → Bool) (traits : Command → Traits)
    (act : Broker → Option Text → Names → Command → Result Done Refusal) (b : Broker) (moment : ℕ)
    (q : Request Command) (names : Names) (P : Outcome → Type 0) where
  abbrev now : Broker
  now = at_moment b moment

  -- what a request of a caller, or an open one, leads to
  abbrev pub result_of : Option Text → Result Wrapped Refusal
  result_of caller = serve permits traits act (spent now caller) caller q names

  abbrev go : Text → Outcome
  go c = finish (spend now c) (Some c) (serve permits traits act (spend now c) (Some c) q names)

  -- the client token is not there
  abbrev pub NoCaller : Type 0
  NoCaller = (t : Text) → q.token ≡ Some t → get now.tokens t ≡ None

  module _ (away : q.is_open ≡ false → NoCaller → P (denied now))
      (dropped : (t : Text) → q.is_open ≡ false → q.token ≡ Some t → is_some (get now.waiting t) ≡ true
      → P (denied (drop_waiting now t)))
      (asked : (caller : Option Text) → IsCaller now q caller
      → P (finish (spent now caller) caller (result_of caller))) where
    by_token : (o : Option Text) → q.is_open ≡ false → q.token ≡ o → P (for_caller now o go)
    by_token None closed is = away closed (λ t e. absurd (none-some _ (sym is ∙ e)))
    by_token (Some t) closed is =
        elim (is_some (get now.waiting t)) as
        (λ v. is_some (get now.waiting t) ≡ v → P (if v then denied (drop_waiting now t)
        else (if is_some (get now.tokens t) then go t else denied now))) [
          | true ↦ λ waits. dropped t closed is waits
          | false ↦ λ no_wait. elim (is_some (get now.tokens t)) as
              (λ v. is_some (get now.tokens t) ≡ v → P (if v then go t else denied now)) [
                | true ↦ λ there. asked (Some t) (inr (t, closed, is, refl, no_wait, there))
                | false ↦ λ none. away closed
                    (λ u e. ap (get now.tokens) (same_Some u t (sym e ∙ is)) ∙ not_there (get now.tokens t) none)
              ] refl
        ] refl

    pub in_order : P (ordered permits traits act b moment q names)
    in_order =
        elim (q.is_open) as (λ v. q.is_open ≡ v
        → P (if v then finish now None (serve permits traits act now None q names)
        else for_caller now q.token go)) [
          | true ↦ λ is. asked None (inl (is, refl))
          | false ↦ λ closed. by_token q.token closed refl
        ] refl
