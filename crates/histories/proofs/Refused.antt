-- What a refused request leaves, and what policies decide.
use Rattle.std.proofs.Common.{◌≡◌, ◌≢◌, ◌≤◌, ◌||◌, if◌then◌else◌}
use Rattle.histories.specs.Words.{ℕ, List, Bool, true, false, not, nat_lt, is_some, Ok, Option, Some, None, Result}
use Rattle.histories.specs.Words.{Err, ⊤, option_map_or, refl, sym, ◌∙◌, ap, subst, inl, inr, arith, false≢true}
use Rattle.histories.specs.Words.{none-some, Text, same, Map, get, valued_is, IsRefused, Broker, Mount, Waiting}
use Rattle.histories.specs.Words.{at_moment, Names, names_of, Answered, nothing, reply, kept_text, missing, Done}
use Rattle.histories.specs.Words.{◌>>=◌, unless, ok_step, unless_ok, spend, drop_waiting, end_spent, one_less}
use Rattle.histories.specs.Words.{status_code, Token, are_new, use_up, Ask, Refusal, Words, ok_inj, act, Command}
use Rattle.histories.specs.Words.{on_wrapping, command_of, OperationsDoAsTold, Outcome, Wrapped, counted, denied}
use Rattle.histories.specs.Words.{finish, for_caller, needed, permission_denied, response_to, serve, unwrapped}
use Rattle.histories.specs.Words.{may_ask, permits, Request, operated, request_of, step, traits, Reason}
use Rattle.histories.specs.Words.{WrappingCommand, Calls, ChangesNothingElse, HasNoCaller, HasResponse, IsDenial}
use Rattle.histories.specs.Words.{PoliciesDecide, RefusedChangeNothing, WrapNeedsTtl, is_granted}
use Rattle.histories.proofs.InOrder.{in_order}
use Rattle.histories.proofs.Order.{IsCaller, spent, with_caller, wrapped_cases, spent_mounts}

-- ---- refused

module _ (told : OperationsDoAsTold) (b : Broker) (moment : ℕ) (words : Words) (a : Ask) where
  abbrev now : Broker
  now = at_moment b moment

  abbrev q : Request Command
  q = request_of a

  abbrev names : Names
  names = names_of words

  -- a refusal leaves all else
  abbrev Keeps : Outcome → Type 0
  Keeps o = 400 ≤ status_code o.response.status → ChangesNothingElse now o.next a

  by_caller : (caller : Option Text) → IsCaller now q caller → (next : Broker)
      → next ≡ end_spent (spent now caller) caller
      → ChangesNothingElse now next a
  by_caller None is next left = inl left
  by_caller (Some t) (inl (open_, none)) next left = absurd (none-some _ (sym none))
  by_caller (Some t) (inr (u, closed, is_token, caller, no_wait, there)) next left =
      inr (inr (record { token = t; client = is_token ∙ sym caller; closed = closed; left = left }))

  module _ (caller : Option Text) (is : IsCaller now q caller) where
    abbrev start : Broker
    start = spent now caller

    module _ (v : Wrapped) (command : Command) (d : Done) (acted : act start caller names command ≡ Ok d)
        (plain : v ≡ unwrapped d) where
      code_is : (x : Answered) → d.answered ≡ x
          → status_code (response_to v.done.answered).status ≡ status_code (response_to x).status
      code_is x answered =
          ap (λ (w : Wrapped). status_code (response_to w.done.answered).status) plain
          ∙ ap (λ y. status_code (response_to y).status) answered

      by_answer : (x : Answered) → d.answered ≡ x → Keeps (finish start caller (Ok v))
      by_answer nothing answered high = absurd (omega (arith, high, code_is nothing answered))
      by_answer (reply r made) answered high = absurd (omega (arith, high, code_is (reply r made) answered))
      by_answer (kept_text t) answered high = absurd (omega (arith, high, code_is (kept_text t) answered))
      by_answer (missing r) answered high =
          let left = (told start caller words command d acted).none_at_404 r answered in
          by_caller caller is (end_spent (counted v.done) caller)
          (ap (λ (w : Wrapped). end_spent (counted w.done) caller) plain
          ∙ ap (λ (taken : List Text). end_spent (record d.next { used = use_up d.next.used taken }) caller) left.1
          ∙ ap (λ (c : Broker). end_spent c caller) left.0)

    by_result : (r : Result Wrapped Refusal) → serve permits traits act start caller q names ≡ r
        → Keeps (finish start caller r)
    by_result (Err why) e high = by_caller caller is (end_spent start caller) refl
    by_result (Ok v) e high =
        let p = ok_step (unless (q.is_open || permits start caller q.verb q.path) permission_denied) _ v e in
        let r = ok_step (q.command start) _ v p.2 in
        let n =
        ok_step (unless (are_new start.used (needed permits traits act q names r.0)) Refusal.IdentifierUsed) _ v r.2 in
        let m = ok_step (unless (not (traits r.0).must_wrap || nat_lt 0 q.wrap_ttl)
        (Refusal.BadRequest Reason.WrappingRequired)) _ v n.2 in
        let f = ok_step (act start caller names r.0) _ v m.2 in
        elim (wrapped_cases permits traits act start q names r.0 f.0) [
          | inl plain ↦ by_answer v r.0 f.0 f.1 (sym (ok_inj f.2) ∙ plain) f.0.answered refl high
          | inr kept ↦ absurd (omega (
            arith,
            high,
            ap (λ (w : Wrapped). status_code (response_to w.done.answered).status) (sym (ok_inj f.2) ∙ kept.4),
          ))
        ]

  pub leaves_all_else : 400 ≤ status_code (step b moment words a).response.status
      → ChangesNothingElse now (step b moment words a).next a
  unfolding step
  leaves_all_else =
      in_order permits traits act b moment q names Keeps
      (λ closed no_caller high. inl refl)
      (λ t closed is_token waits high. inr (inl (record {
        token = t;
        client = is_token;
        closed = closed;
        waited = λ none. false≢true (sym (ap (λ (o : Option Waiting). is_some o) none) ∙ waits);
        left = refl;
      })))
      (λ caller is. by_result caller is (serve permits traits act (spent now caller) caller q names) refl)

pub refused_change_nothing : OperationsDoAsTold → RefusedChangeNothing
refused_change_nothing told b moment words a high = leaves_all_else told b moment words a high

-- ---- without a wrap TTL

module _ (b : Broker) (moment : ℕ) (words : Words) (a : Ask) (text : Text)
    (means : command_of (at_moment b moment).mounts a ≡ Ok (on_wrapping (WrappingCommand.Wrap text)))
    (none : a.wrap_ttl ≡ 0) where
  abbrev IsNot : Outcome → Type 0
  IsNot o = IsRefused o.response

  not_served : (caller : Option Text) (r : Result Wrapped Refusal)
      → serve permits traits act (spent (at_moment b moment) caller) caller (request_of a) (names_of words) ≡ r
      → IsNot (finish (spent (at_moment b moment) caller) caller r)
  not_served caller (Err why) e = (why, refl)
  not_served caller (Ok v) e =
      let start = spent (at_moment b moment) caller in
      let z = request_of a in
      let p = ok_step (unless (z.is_open || permits start caller z.verb z.path) permission_denied) _ v e in
      let r = ok_step (z.command start) _ v p.2 in
      let n = ok_step (unless (are_new start.used (needed permits traits act z (names_of words) r.0))
      Refusal.IdentifierUsed) _ v r.2 in
      let m = ok_step (unless (not (traits r.0).must_wrap || nat_lt 0 z.wrap_ttl)
      (Refusal.BadRequest Reason.WrappingRequired)) _ v n.2 in
      let is : r.0 ≡ on_wrapping (WrappingCommand.Wrap text) =
      ok_inj (sym r.1 ∙ ap (λ (ms : Map Mount). command_of ms a) (spent_mounts (at_moment b moment) caller) ∙ means) in
      absurd (false≢true
      (sym (ap (λ (k : Command). not (traits k).must_wrap || nat_lt 0 a.wrap_ttl) is
      ∙ ap (λ t. not true || nat_lt 0 t) none)
      ∙ unless_ok _ (Refusal.BadRequest Reason.WrappingRequired) m.0 m.1))

  pub needs_ttl : IsRefused (step b moment words a).response
  unfolding step
  needs_ttl =
      in_order permits traits act b moment (request_of a) (names_of words) IsNot
      (λ closed no_caller. (permission_denied, refl))
      (λ t closed is_token waits. (permission_denied, refl))
      (λ caller is. not_served caller (serve permits traits act (spent (at_moment b moment) caller) caller
      (request_of a) (names_of words)) refl)

pub wrap_needs_ttl : WrapNeedsTtl
wrap_needs_ttl b moment words a text means none = needs_ttl b moment words a text means none

-- ---- policies

module _ (b : Broker) (moment : ℕ) (words : Words) (a : Ask) (c : Text) (x : Token)
    (h : Calls (at_moment b moment) a c x) where
  abbrev clock_ : Broker
  clock_ = at_moment b moment

  abbrev spent_ : Broker
  spent_ = spend clock_ c

  -- the caller is there
  there : is_some (get clock_.tokens c) ≡ true
  there =
      let y = valued_is (λ u (z : Token). if same u c then one_less z else z) clock_.tokens c x h.there in
      ap (λ (o : Option Token). is_some o) y.1

  no_wait : is_some (get clock_.waiting c) ≡ false
  no_wait = ap (λ (o : Option Waiting). is_some o) h.no_response

  -- what its policies grant is what it may ask
  decides : (v : Bool) → is_granted spent_ c x a ≡ v
      → ((request_of a).is_open || permits spent_ (Some c) a.verb a.path) ≡ v
  decides v e =
      ap (λ z. z || permits spent_ (Some c) a.verb a.path) h.closed
      ∙ ap (λ (o : Option Token). option_map_or (may_ask spent_ c a.verb a.path) o false) h.there ∙ e

  abbrev rest : ⊤ → Result Wrapped Refusal
  rest allowed = command_of clock_.mounts a >>= operated spent_ (Some c) (names_of words) a

  as_decided : (v : Bool) → is_granted spent_ c x a ≡ v
      → step b moment words a ≡ finish spent_ (Some c) (unless v permission_denied >>= rest)
  unfolding step
  as_decided v e =
      with_caller permits traits act b moment (request_of a) (names_of words) (Some c)
      (inr (c, h.closed, h.client, refl, no_wait, there))
      ∙ ap (λ z. finish spent_ (Some c) (unless z permission_denied >>= rest)) (decides v e)

-- ---- without a caller

-- a denial, whatever it leaves
denial_of : (left next : Broker) → next ≡ left → IsDenial left (denied next)
denial_of left next is = record { denied = record { forbidden = refl; is = refl }; next = is }

-- what is there is something
is_there : {X : Type 0} (o : Option X) → o ≢ None → is_some o ≡ true
is_there None some = absurd (some refl)
is_there (Some x) some = refl

module _ (b : Broker) (moment : ℕ) (words : Words) (a : Ask) where
  abbrev at_clock : Broker
  at_clock = at_moment b moment

  no_caller : HasNoCaller at_clock a → IsDenial at_clock (step b moment words a)
  unfolding step
  no_caller h =
      in_order permits traits act b moment (request_of a) (names_of words) (IsDenial at_clock)
      (λ closed none. denial_of at_clock at_clock refl)
      (λ t closed is_token waits.
      absurd (false≢true (sym (ap (λ (o : Option Waiting). is_some o) (h.no_response t is_token)) ∙ waits)))
      (λ caller is. absurd (none_calls caller is))
    where
      none_calls : (caller : Option Text) → IsCaller at_clock (request_of a) caller → ⊥
      none_calls caller (inl (open_, none)) = false≢true (sym h.closed ∙ open_)
      none_calls caller (inr (t, closed, is_token, some, not_waiting, there)) =
          false≢true (sym (ap (λ (o : Option Token). is_some o) (h.no_token t is_token)) ∙ there)

  -- the step of an ask whose client token is a wrapping token
  response_dropped : (t : Text) → HasResponse at_clock a t → step b moment words a ≡ denied (drop_waiting at_clock t)
  unfolding step
  response_dropped t h =
      let go : Text → Outcome = λ c. finish (spend at_clock c) (Some c)
      (serve permits traits act (spend at_clock c) (Some c) (request_of a) (names_of words)) in
      ap (λ v. if v then finish at_clock None (serve permits traits act at_clock None (request_of a) (names_of words))
      else for_caller at_clock a.token go) h.closed
      ∙ ap (λ o. for_caller at_clock o go) h.client
      ∙ ap (λ v. if v then denied (drop_waiting at_clock t)
      else (if is_some (get at_clock.tokens t) then go t else denied at_clock))
      (is_there (get at_clock.waiting t) h.waits)

pub policies_decide : PoliciesDecide
policies_decide = record {
  nobody = λ b moment words a h. no_caller b moment words a h;
  response = λ b moment words a t h.
      subst (IsDenial (drop_waiting (at_moment b moment) t)) (sym (response_dropped b moment words a t h))
      (denial_of (drop_waiting (at_moment b moment) t) (drop_waiting (at_moment b moment) t) refl);
  denied = λ b moment words a c x h e. ap (λ (o : Outcome). o.response) (as_decided b moment words a c x h false e);
  granted = λ b moment words a c x h e. as_decided b moment words a c x h true e;
}
