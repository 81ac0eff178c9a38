-- What a renewal that was answered with 200 renewed.
use Rattle.std.proofs.Common.{◌≡◌, ◌≢◌, ◌+◌, ◌-◌, ◌==◌, if◌then◌else◌}
use Rattle.leases.specs.Leases as leases
use Rattle.histories.specs.Words.{with_end, ℕ, min, is_some, Some, None, Ok, option_and_then, option_map, refl, sym}
use Rattle.histories.specs.Words.{◌∙◌, ap, subst, inl, inr, arith, ne_eqb, none-some, same_Some, Text, same, same_self}
use Rattle.histories.specs.Words.{change, first_where, get, get-change, valued_is, Broker, names_of, Done}
use Rattle.histories.specs.Words.{found_or_not, is_there, lease_of, unless, no_ok, ok_step, unless_ok, first_where_is}
use Rattle.histories.specs.Words.{status_code, Lease, Token, Tokens, has_lease, token_entry, ok_inj, auth_object}
use Rattle.histories.specs.Words.{lease_reply, reply_text, on_lease, on_token, chained, OperationsDoAsTold, step}
use Rattle.histories.specs.Words.{act_on_tokens, known, new_end, renew_token, Reason, Refusal, LeaseCommand}
use Rattle.histories.specs.Words.{TokenCommand, told_of, with_token, Asking, clocked, spent_by, IsRenewedLease}
use Rattle.histories.specs.Words.{IsRenewedTo, RenewalOf, RenewsLease, RenewsToken, increment_of, TellsRenewed}
use Rattle.histories.specs.Words.{TellsRenewedLease}
use Rattle.histories.proofs.Clients.{from_clock}
use Rattle.histories.proofs.Descent.{HasNewEnd, before_use, renewed_to}
use Rattle.histories.proofs.Disabled.{token_left}
use Rattle.histories.proofs.LeaseChanges.{renewed_so}
use Rattle.histories.proofs.Order.{some_ok, tells_body, served}
use Rattle.histories.proofs.RenewedEnds.{is_new_end}
use Rattle.histories.proofs.ServedFor.{ServedFor, served_for}

-- ---- a token

module _ (a : Asking) (is : a.outcome ≡ step a.broker a.moment a.words a.ask) (q : Text) (y : Token)
    (r : RenewsToken a q) (there : get a.outcome.next.tokens q ≡ Some y) where
  for : ServedFor a (on_token r.command)
  for = served_for a (served a is (omega (arith, ap status_code r.answered))) (on_token r.command) r.means
      (λ b names d e. no_ok e)

  abbrev start : Broker
  start = spent_by a for.caller

  abbrev Renewed : Type 0
  Renewed = (x : Token) × (get (clocked a).tokens q ≡ Some x) × IsRenewedTo a q x y.ends

  -- the token t, which is q, was renewed by what the command asks for
  by_text : (t : Text) (increment : ℕ) → t ≡ q → increment ≡ increment_of r.command
      → renew_token start (names_of a.words) t increment ≡ Ok for.it.done → Renewed
  by_text t increment is_q is_so e =
      let x = ok_step (known start t) _ for.it.done e in
      let ending = ok_step (unless (is_some x.0.ends) (Refusal.BadRequest Reason.TokenNotRenewable)) _ for.it.done x.2
      in
      let f = with_end (new_end start.clock (token_entry x.0) increment) in
      let left : get (change start.tokens t f) q ≡ Some y =
      ap (λ (z : Done). get z.next.tokens q) (ok_inj ending.2) ∙ token_left a for.it q y there in
      let z = valued_is (λ u (w : Token). if same u t then f w else w) start.tokens q y left in
      let was : get start.tokens q ≡ Some x.0 = ap (get start.tokens) (sym is_q) ∙ some_ok _ (get start.tokens t) x.1 in
      let one : z.0 ≡ x.0 = same_Some _ _ (sym z.1 ∙ was) in
      let is_renewed : y ≡ f x.0 = z.2
      ∙ ap (λ u. if same u t then f z.0 else z.0) (sym is_q)
      ∙ ap (λ v. if v then f z.0 else z.0) (same_self t) ∙ ap f one in
      let had = is_there x.0.ends (unless_ok _ _ ending.0 ending.1) in
      let from = from_clock a for.caller for.client q x.0 was in
      let end : HasNewEnd a q x.0 y.ends = record {
        renews = r;
        had = λ none. none-some _ (sym none ∙ had.1);
        is = ap (λ (w : Token). w.ends) is_renewed
            ∙ ap (λ n. Some (new_end start.clock (token_entry x.0) n)) is_so;
      } in (
        from.earlier,
        from.there,
        renewed_to a q from.earlier y.ends (before_use a q from.earlier x.0.uses_left y.ends
            (subst (λ (w : Token). HasNewEnd a q w y.ends) from.rest end)),
      )

  abbrev Acts : TokenCommand → Type 0
  Acts k = act_on_tokens start for.caller (names_of a.words) k ≡ Ok for.it.done

  by_command : (k : TokenCommand) → r.command ≡ k → RenewalOf r.caller q k → Acts k → Renewed
  by_command (TokenCommand.Renew asked) is_k names acted =
      by_text asked.token asked.increment names (ap increment_of (sym is_k)) acted
  by_command (TokenCommand.RenewSelf increment) is_k names acted =
      by_text for.caller increment (same_Some _ _ (sym for.client.token ∙ r.client.token) ∙ names)
      (ap increment_of (sym is_k)) acted
  by_command _ is_k names acted = absurd names

  -- a token that was renewed has its new end
  pub renewed_token : Renewed
  renewed_token = by_command r.command refl r.names for.acted

-- ---- what is told of a token

module _ (told : OperationsDoAsTold) (a : Asking) (is : a.outcome ≡ step a.broker a.moment a.words a.ask) (q : Text)
    (r : RenewsToken a q) where
  for_token : ServedFor a (on_token r.command)
  for_token = served_for a (served a is (omega (arith, ap status_code r.answered))) (on_token r.command) r.means
      (λ b names d e. no_ok e)

  same_caller : for_token.caller ≡ r.caller
  same_caller = same_Some _ _ (sym for_token.client.token ∙ r.client.token)

  abbrev Renews : Text → ℕ → Type 0
  Renews t increment = renew_token (spent_by a r.caller) (names_of a.words) t increment ≡ Ok for_token.it.done

  tells_of : (t : Text) (increment : ℕ) → t ≡ q → increment ≡ increment_of r.command → Renews t increment
      → TellsRenewed a q r
  tells_of t increment is_q is_so e =
      let start = spent_by a r.caller in
      let now = (clocked a).clock in
      let request = (names_of a.words).request in
      let x = ok_step (known start t) _ for_token.it.done e in
      let ending = ok_step (unless (is_some x.0.ends) (Refusal.BadRequest Reason.TokenNotRenewable)) _
      for_token.it.done x.2 in
      let object : Text → ℕ → Text = λ u n. reply_text (with_token request
      (auth_object (told_of now u (record x.0 { ends = Some (new_end now (token_entry x.0) n) })))) in
      record {
        found = x.0;
        there = ap (get start.tokens) (sym is_q) ∙ some_ok _ (get start.tokens t) x.1;
        end = new_end now (token_entry x.0) (increment_of r.command);
        in_time = is_new_end now (increment_of r.command) x.0;
        told = sym (tells_body told a for_token.it _ None (ap (λ (z : Done). z.answered) (sym (ok_inj ending.2)))).0
            ∙ ap (λ u. object u increment) is_q ∙ ap (object q) is_so;
      }

  abbrev ActsFor : TokenCommand → Type 0
  ActsFor k = act_on_tokens (spent_by a r.caller) r.caller (names_of a.words) k ≡ Ok for_token.it.done

  tells_by : (k : TokenCommand) → r.command ≡ k → RenewalOf r.caller q k → ActsFor k → TellsRenewed a q r
  tells_by (TokenCommand.Renew asked) is_k names acted =
      tells_of asked.token asked.increment names (ap increment_of (sym is_k)) acted
  tells_by (TokenCommand.RenewSelf increment) is_k names acted =
      tells_of r.caller increment names (ap increment_of (sym is_k)) acted
  tells_by _ is_k names acted = absurd names

  pub tells_renewed : TellsRenewed a q r
  tells_renewed =
      tells_by r.command refl r.names
      (subst (λ u. act_on_tokens (spent_by a u) u (names_of a.words) r.command ≡ Ok for_token.it.done) same_caller
      for_token.acted)

-- ---- a lease

module _ (a : Asking) (is : a.outcome ≡ step a.broker a.moment a.words a.ask) (lease_id : Text)
    (r : RenewsLease a lease_id) where
  pub for_lease : ServedFor a (on_lease r.prefix (LeaseCommand.Renew r.asked))
  for_lease = served_for a (served a is (omega (arith, ap status_code r.answered)))
      (on_lease r.prefix (LeaseCommand.Renew r.asked)) r.means (λ b names d e. no_ok e)

  abbrev b : Broker
  b = spent_by a for_lease.caller

  abbrev d : Done
  d = for_lease.it.done

  -- what was looked up, and the renewal
  pub record DidRenew : Type 0 where
    pub found : Lease
    pub at : leases.find b r.asked.lease_id ≡ Some found
    pub next : d.next.tokens ≡ (leases.with_renewed b r.asked.lease_id r.asked.increment).tokens

  did : DidRenew
  did =
      let n = ok_step (leases.renew b r.asked.lease_id r.asked.increment) _ d for_lease.acted in
      let l = ok_step (leases.lookup b r.asked.lease_id) _ n.0 n.1 in
      record {
        found = l.0;
        at = some_ok _ (leases.find b r.asked.lease_id) l.1;
        next = ap (λ (z : Done). z.next.tokens) (sym (ok_inj n.2))
            ∙ ap (λ (z : leases.Renewed). z.next.tokens) (sym (ok_inj l.2));
      }

  -- a token of the clock had it
  pub had_lease : (q : Text) × (lease_of (clocked a) q lease_id ≢ None)
  had_lease =
      let e = chained (λ e. get e.1.leases r.asked.lease_id)
      (first_where (λ t (x : Token). has_lease r.asked.lease_id x) b.tokens) did.found did.at in
      let there = first_where_is (λ t (x : Token). has_lease r.asked.lease_id x) b.tokens e.0 e.1 in
      let from = from_clock a for_lease.caller for_lease.client (e.0).0 (e.0).1 there.0 in (
        (e.0).0,
        λ none. none-some _ (sym none ∙ ap (lease_of (clocked a) (e.0).0) (sym r.names)
            ∙ ap (option_and_then (λ (z : Token). get z.leases r.asked.lease_id)) from.there
            ∙ ap (λ (z : Token). get z.leases r.asked.lease_id) (sym from.rest) ∙ e.2),
      )

  -- and the reply tells of it
  pub tells_renewed_lease_ : OperationsDoAsTold → TellsRenewedLease a lease_id r
  tells_renewed_lease_ told =
      let now = (clocked a).clock in
      let n = ok_step (leases.renew b r.asked.lease_id r.asked.increment) _ d for_lease.acted in
      let l = ok_step (leases.lookup b r.asked.lease_id) _ n.0 n.1 in
      let e = chained (λ e. get e.1.leases r.asked.lease_id)
      (first_where (λ t (x : Token). has_lease r.asked.lease_id x) b.tokens) l.0
      (some_ok _ (leases.find b r.asked.lease_id) l.1) in
      let there = first_where_is (λ t (x : Token). has_lease r.asked.lease_id x) b.tokens e.0 e.1 in
      let from = from_clock a for_lease.caller for_lease.client (e.0).0 (e.0).1 there.0 in
      let last = (l.0).issued + (l.0).max_ttl in
      let tells : Text → ℕ → Text = λ u end.
      reply_text (lease_reply (names_of a.words).request u (end - now) None) in
      record {
        holder = (e.0).0;
        found = l.0;
        there = ap (lease_of (clocked a) (e.0).0) (sym r.names)
            ∙ ap (option_and_then (λ (z : Token). get z.leases r.asked.lease_id)) from.there
            ∙ ap (λ (z : Token). get z.leases r.asked.lease_id) (sym from.rest) ∙ e.2;
        end = leases.renewed_end now r.asked.increment l.0;
        asked = λ some. ap (λ v. min (now + (if v then (l.0).ttl else r.asked.increment)) last)
            (ne_eqb r.asked.increment 0 some);
        not_asked = λ none. ap (λ n. min (now + (if n == 0 then (l.0).ttl else n)) last) none;
        told = sym (tells_body told a for_lease.it _ None (ap (λ (z : Done). z.answered) (sym (ok_inj n.2)))).0
            ∙ ap (λ (z : leases.Renewed). tells r.asked.lease_id z.ends) (sym (ok_inj l.2))
            ∙ ap (λ u. tells u (leases.renewed_end now r.asked.increment l.0)) r.names;
      }

  module _ (q : Text) (l : Lease) (was : lease_of (clocked a) q lease_id ≡ Some l)
      (stays : get a.outcome.next.tokens q ≢ None) where
    -- and it is renewed, if its token is still there
    renewed_if : (y : Token) → get a.outcome.next.tokens q ≡ Some y
        → IsRenewedLease a lease_id (Some l) (lease_of a.outcome.next q lease_id)
    renewed_if y there =
        let f = leases.renewed b.clock r.asked.increment in
        let edit : Text → Token → Token = λ t z. leases.with_leases (change z.leases r.asked.lease_id f) z in
        let x = valued_is edit b.tokens q y
        (ap (λ (m : Tokens). get m q) (sym did.next) ∙ token_left a for_lease.it q y there)
        in
        let from = from_clock a for_lease.caller for_lease.client q x.0 x.1 in
        let had : get (x.0).leases lease_id ≡ Some l =
        ap (λ (z : Token). get z.leases lease_id) from.rest
        ∙ ap (option_and_then (λ (z : Token). get z.leases lease_id)) (sym from.there) ∙ was in
        let left : lease_of a.outcome.next q lease_id ≡ Some (f l) =
        ap (option_and_then (λ (z : Token). get z.leases lease_id)) there
        ∙ ap (λ (z : Token). get z.leases lease_id) x.2
        ∙ get-change (x.0).leases r.asked.lease_id f lease_id
        ∙ ap (option_map (λ z. if same lease_id r.asked.lease_id then f z else z)) had
        ∙ ap (λ u. Some (if same lease_id u then f l else l)) r.names
        ∙ ap (λ v. Some (if v then f l else l)) (same_self lease_id) in
        subst (IsRenewedLease a lease_id (Some l)) (sym left) (renewed_so a lease_id r l)

    pub renewed_lease : IsRenewedLease a lease_id (Some l) (lease_of a.outcome.next q lease_id)
    renewed_lease = elim (found_or_not (get a.outcome.next.tokens q)) [
      | inl none ↦ absurd (stays none)
      | inr y ↦ renewed_if y.0 y.1
    ]

pub tells_renewed_lease : OperationsDoAsTold → (a : Asking) → a.outcome ≡ step a.broker a.moment a.words a.ask
    → (lease_id : Text) (r : RenewsLease a lease_id) → TellsRenewedLease a lease_id r
tells_renewed_lease told a is lease_id r = tells_renewed_lease_ a is lease_id r told
