-- The cases of the order of one request.
use Rattle.std.proofs.Common.{◌≡◌, ◌⊎◌, ◌||◌, if◌then◌else◌}
use Rattle.histories.specs.Words.{ℕ, Bool, true, false, not, nat_lt, Option, Some, None, Ok, Result, Err, is_some}
use Rattle.histories.specs.Words.{refl, sym, ◌∙◌, ap, subst, inl, inr, Text, get, Broker, at_moment, Names, Done}
use Rattle.histories.specs.Words.{some_or, unless, no_ok, ok_step, unless_ok, spend, drop_waiting, are_new, Verb}
use Rattle.histories.specs.Words.{Refusal, ok_inj, Outcome, Traits, Wrapped, denied, for_caller, finish, needed}
use Rattle.histories.specs.Words.{ordered, permission_denied, serve, wrapped, Request, Reason}

-- ---- steps of a definition

-- there was what was asked for
pub some_ok : {A : Type 0} {x : A} (r : Refusal) (o : Option A) → some_or r o ≡ Ok x → o ≡ Some x
some_ok r None e = no_ok e
some_ok r (Some y) e = ap Some (ok_inj e)

-- ---- the cases of a request

-- the broker after the caller's use, if there is a caller
abbrev pub spent : Broker → Option Text → Broker
spent b None = b
spent b (Some c) = spend b c

-- the request was denied before there was a caller; its client token may have been a wrapping token, which is removed
pub record IsTurnedAway {Command : Type 0} (now : Broker) (q : Request Command) (o : Outcome) : Type 0 where
  pub next : Broker
  pub outcome : o ≡ denied next
  pub removed : (next ≡ now)
      ⊎ ((t : Text) × (q.is_open ≡ false) × (q.token ≡ Some t) × (is_some (get now.waiting t) ≡ true)
      × (next ≡ drop_waiting now t))

-- an open request has no caller; the caller of another is its client token, which is a token and no wrapping token
abbrev pub IsCaller : {Command : Type 0} → Broker → Request Command → Option Text → Type 0
IsCaller now q caller =
    ((q.is_open ≡ true) × (caller ≡ None))
    ⊎ ((t : Text) × (q.is_open ≡ false) × (q.token ≡ Some t) × (caller ≡ Some t) × (is_some (get now.waiting t) ≡ false)
    × (is_some (get now.tokens t) ≡ true))

-- the request of the caller, or an open one, was refused
pub record IsTurnedDown (now : Broker) (o : Outcome) : Type 0 where
  pub caller : Option Text
  pub why : Refusal
  pub outcome : o ≡ finish (spent now caller) caller (Err why)

-- the request of the caller, or an open one, was served
pub record IsServed {Command : Type 0} (permits : Broker → Option Text → Verb → Text → Bool) (traits : Command → Traits)
    (act : Broker → Option Text → Names → Command → Result Done Refusal) (now : Broker) (q : Request Command)
    (names : Names) (o : Outcome) : Type 0 where
  pub caller : Option Text
  pub asked : IsCaller now q caller
  pub command : Command
  pub done : Done
  pub allowed : (q.is_open || permits (spent now caller) caller q.verb q.path) ≡ true
  pub means : q.command (spent now caller) ≡ Ok command
  pub new : are_new (spent now caller).used (needed permits traits act q names command) ≡ true
  pub acted : act (spent now caller) caller names command ≡ Ok done
  pub outcome : o ≡ finish (spent now caller) caller
      (Ok (wrapped permits traits act (spent now caller) q names command done))

module _ {Command : Type 0} (permits : Broker → Option Text → Verb → Text → Bool) (traits : Command → Traits)
    (act : Broker → Option Text → Names → Command → Result Done Refusal) (now : Broker) (q : Request Command)
    (names : Names) where
  abbrev Cases : Outcome → Type 0
  Cases o = IsTurnedAway now q o ⊎ (IsTurnedDown now o ⊎ IsServed permits traits act now q names o)

  abbrev served : Option Text → Result Wrapped Refusal
  served caller = serve permits traits act (spent now caller) caller q names

  by_result : (caller : Option Text) → IsCaller now q caller → (r : Result Wrapped Refusal) → served caller ≡ r
      → Cases (finish (spent now caller) caller r)
  by_result caller asked (Err why) e = inr (inl (record { caller = caller; why = why; outcome = refl }))
  by_result caller asked (Ok v) e =
      let b = spent now caller in
      let p = ok_step (unless (q.is_open || permits b caller q.verb q.path) permission_denied) _ v e in
      let r = ok_step (q.command b) _ v p.2 in
      let n =
      ok_step (unless (are_new b.used (needed permits traits act q names r.0)) Refusal.IdentifierUsed) _ v r.2 in
      let m = ok_step (unless (not (traits r.0).must_wrap || nat_lt 0 q.wrap_ttl)
      (Refusal.BadRequest Reason.WrappingRequired)) _ v n.2 in
      let f = ok_step (act b caller names r.0) _ v m.2 in
      inr (inr (record {
        caller = caller;
        asked = asked;
        command = r.0;
        done = f.0;
        allowed = unless_ok _ permission_denied p.0 p.1;
        means = r.1;
        new = unless_ok _ Refusal.IdentifierUsed n.0 n.1;
        acted = f.1;
        outcome = ap (λ (x : Wrapped). finish b caller (Ok x)) (sym (ok_inj f.2));
      }))

  by_token : (o : Option Text) → q.is_open ≡ false → q.token ≡ o
      → Cases (for_caller now o (λ c. finish (spend now c) (Some c)
      (serve permits traits act (spend now c) (Some c) q names)))
  by_token None closed is = inl (record { next = now; outcome = refl; removed = inl refl })
  by_token (Some t) closed is =
      elim (is_some (get now.waiting t)) as
      (λ v. is_some (get now.waiting t) ≡ v → Cases (if v then denied (drop_waiting now t)
      else (if is_some (get now.tokens t) then finish (spend now t) (Some t) (served (Some t)) else denied now))) [
        | true ↦ λ waits. inl
            (record { next = drop_waiting now t; outcome = refl; removed = inr (t, closed, is, waits, refl) })
        | false ↦ λ no_wait. elim (is_some (get now.tokens t)) as
            (λ v. is_some (get now.tokens t) ≡ v
            → Cases (if v then finish (spend now t) (Some t) (served (Some t)) else denied now)) [
              | true ↦ λ there. by_result (Some t) (inr (t, closed, is, refl, no_wait, there)) (served (Some t)) refl
              | false ↦ λ _. inl (record { next = now; outcome = refl; removed = inl refl })
            ] refl
      ] refl

module _ {Command : Type 0} (permits : Broker → Option Text → Verb → Text → Bool) (traits : Command → Traits)
    (act : Broker → Option Text → Names → Command → Result Done Refusal) (b : Broker) (moment : ℕ)
    (q : Request Command) (names : Names) where
  abbrev now : Broker
  now = at_moment b moment

  -- a request is turned away, turned down, or served
  pub order_cases : IsTurnedAway now q (ordered permits traits act b moment q names)
      ⊎ (IsTurnedDown now (ordered permits traits act b moment q names)
      ⊎ IsServed permits traits act now q names (ordered permits traits act b moment q names))
  order_cases =
      elim (q.is_open) as (λ v. q.is_open ≡ v → Cases permits traits act now q names
      (if v then finish now None (serve permits traits act now None q names)
      else for_caller now q.token (λ c. finish (spend now c) (Some c)
      (serve permits traits act (spend now c) (Some c) q names)))) [
        | true ↦ λ is. by_result permits traits act now q names None (inl (is, refl))
            (serve permits traits act now None q names) refl
        | false ↦ λ closed. by_token permits traits act now q names q.token closed refl
      ] refl

  -- the order of a request with a caller, or of an open one
  pub with_caller : (caller : Option Text) → IsCaller now q caller
      → ordered permits traits act b moment q names
      ≡ finish (spent now caller) caller (serve permits traits act (spent now caller) caller q names)
  with_caller caller (inl (is, none)) =
      subst (λ (c : Option Text). ordered permits traits act b moment q names
      ≡ finish (spent now c) c (serve permits traits act (spent now c) c q names)) (sym none)
      (ap (λ v. if v then finish now None (serve permits traits act now None q names)
      else for_caller now q.token (λ c. finish (spend now c) (Some c)
      (serve permits traits act (spend now c) (Some c) q names))) is)
  with_caller caller (inr (t, closed, is, some, no_wait, there)) =
      let go : Text → Outcome =
      λ c. finish (spend now c) (Some c) (serve permits traits act (spend now c) (Some c) q names) in
      subst (λ (c : Option Text). ordered permits traits act b moment q names
      ≡ finish (spent now c) c (serve permits traits act (spent now c) c q names)) (sym some)
      (ap (λ v. if v then finish now None (serve permits traits act now None q names) else for_caller now q.token go)
      closed
      ∙ ap (λ o. for_caller now o go) is
      ∙ ap (λ v. if v then denied (drop_waiting now t) else (if is_some (get now.tokens t) then go t else denied now))
      no_wait
      ∙ ap (λ v. if v then go t else denied now) there)
