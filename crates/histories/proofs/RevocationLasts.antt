-- What is revoked, and whatever else ended, does not come back.
use Rattle.std.proofs.Common.{◌≡◌, ◌≢◌, ◌<◌, ◌≤◌, ◌⊎◌, ◌||◌, ◌&&◌, ◌∷◌, if◌then◌else◌}
use Rattle.broker_model.specs.Words.{tree_of, at_moment_ends, alive_tree, left_outlasts, outlasting_is_left}
use Rattle.broker_model.specs.Words.{values_tree, revoke_alone}
use Rattle.broker_types.specs.Broker.{revoke, revoke_orphan}
use Rattle.broker_types.specs.IdentifierPlaces as place
use Rattle.histories.specs.Words.{not, nat_lt, ℕ, max, List, [], Bool, true, false, is_some, cond, Option, Some, None}
use Rattle.histories.specs.Words.{Result, Ok, Err, option_map, option_and_then, refl, sym, ◌∙◌, ap, subst, inl, inr}
use Rattle.histories.specs.Words.{arith, false≢true, false_from_ne_true, ltb-true, ltb-false, none-some, same_Some}
use Rattle.histories.specs.Words.{Text, same, Map, get, get-change, get-without, valued_is, IsRefused, Response}
use Rattle.histories.specs.Words.{refused, Broker, Waiting, Evolves, HasEnded, IsTree, Names, names_of, Answered}
use Rattle.histories.specs.Words.{nothing, reply, kept_text, missing, Done, found_or_not, lease_of, token_identifier}
use Rattle.histories.specs.Words.{◌>>=◌, some_or, unless, at_moment_evolves, Sound, spend, drop_waiting, end_spent}
use Rattle.histories.specs.Words.{one_less, status_code, Token, Lease, same_true, alive_is, under_tokens, are_new}
use Rattle.histories.specs.Words.{use_up, Refusal, no_ok, ok_step, ok_inj, act, Command, on_token, on_wrapping}
use Rattle.histories.specs.Words.{command_of, forms, OperationsDoAsTold, Outcome, Wrapped, denied, finish, for_caller}
use Rattle.histories.specs.Words.{needed, permission_denied, response_to, serve, unwrapped, wrapped, permits, Request}
use Rattle.histories.specs.Words.{ok, no_content, is_open, request_of, step, traits, wrapping_names, act_on_tokens}
use Rattle.histories.specs.Words.{holder, revoke_token, FoundResponse, found, found_under, rewrapped, act_on_wrappings}
use Rattle.histories.specs.Words.{Reason, Status, TokenCommand, WrappingCommand, AreAsked, Asking, AskedAt, History}
use Rattle.histories.specs.Words.{clocked, spent_by, unwrapped_body, EndsToken, FindsNone, IsDue, IsGone, IsGranted}
use Rattle.histories.specs.Words.{Revocation, Revokes, RevokesAlone, with_later_leases, is_orphaning, is_revocation}
use Rattle.histories.specs.Words.{named_by, orphaning_by, orphaning_of, revoked_by, revoked_of, taken_as}
use Rattle.histories.specs.Words.{option_map_or, lease_identifier, kept_get, chained, IsLeaseDue, LacksLease}
use Rattle.histories.proofs.Clients.{course}
use Rattle.histories.proofs.Descent.{descends}
use Rattle.histories.proofs.Ending.{IsLeaseGone, ended_lasts, gone_has_ended, lease_lasts, leases_are_gone}
use Rattle.histories.proofs.Keeping.{EachKeeps, Keeps}
use Rattle.histories.proofs.Lasting.{asked_keeps, evolved_since, kept_evolves, left_since}
use Rattle.histories.proofs.Order.{IsCaller, some_ok, spent, with_caller, end_spent_waiting, wrapped_cases, asked_at}
use Rattle.histories.proofs.Order.{history_keeps, means_at_clock, Served, nothing_is_no_reply, refused_or_served}
use Rattle.histories.proofs.Order.{served}
use Rattle.histories.proofs.Revoking.{below_are_gone, below_are_left, children_are_orphans, orphaned_is_gone}
use Rattle.histories.proofs.Revoking.{others_are_left, others_stay, revoked_are_gone}
use Rattle.histories.proofs.LeasesGone.{stays_gone}

-- ---- a lease that comes to its end does not come back

module _ (a : Asking) (sound : Sound forms None a.broker) (keeps : Keeps unwrapped_body a) (q lease_id : Text)
    (l : Lease) (d : IsLeaseDue a q lease_id l) where
  -- it is none at the clock
  none_then : lease_of (clocked a) q lease_id ≡ None
  none_then = elim (found_or_not (lease_of (clocked a) q lease_id)) [
    | inl none ↦ none
    | inr k ↦
        let now = max a.broker.clock a.moment in
        let y = chained (λ (x : Token). get x.leases lease_id) (get (clocked a).tokens q) k.0 k.1 in
        let x = alive_is now a.broker.tokens q y.0 y.1 in
        let live =
        kept_get (λ id. option_map_or (λ (m : Lease). nat_lt now m.ends)
        (get x.0.leases id) false) x.0.leases lease_id k.0
        (ap (λ (z : Token). get z.leases lease_id) (sym x.3) ∙ y.2) in
        let there : get x.0.leases lease_id ≡ Some l =
        ap (option_and_then (λ (z : Token). get z.leases lease_id)) (sym x.1) ∙ d.was in
        let later : now < l.ends =
        ltb-true now l.ends (ap (λ o. option_map_or (λ (m : Lease). nat_lt now m.ends) o false) (sym there) ∙ live.1) in
        absurd (omega (arith, later, d.reached))
  ]

  was_used : get a.broker.used (lease_identifier lease_id) ≡ None → ⊥
  was_used = sound.identifiers.all_used (place.lease q lease_id) (lease_identifier lease_id)
      (ap (option_map (λ (k : Lease). lease_identifier lease_id)) d.was)

  -- so it is none after the request
  none_left : lease_of a.outcome.next q lease_id ≡ None
  none_left = elim (found_or_not (lease_of a.outcome.next q lease_id)) [
    | inl none ↦ none
    | inr k ↦ elim (keeps.evolves.leases q lease_id k.0 k.1) [
      | inl before ↦ absurd (none-some _ (sym none_then ∙ before.1))
      | inr new ↦ absurd (was_used new.0)
    ]
  ]

  -- nor in anything that evolves from that
  pub lease_stays_out : (b : Broker) → (a.outcome.next ≡ b) ⊎ Evolves a.outcome.next b → LacksLease b lease_id l
  lease_stays_out = stays_gone a sound keeps q lease_id l d.was none_left

-- ---- a 204

-- the code of a response's status
abbrev code : Response → ℕ
code r = status_code r.status

-- no reply is a 204
reply_is_content : (t : Text) → ok t ≡ no_content → ⊥
reply_is_content t e = absurd (omega (arith, ap code e))

-- what a 204 left
abbrev left_by : Asking → Text → Done → Broker
left_by a c d = end_spent (record d.next { used = use_up d.next.used d.taken }) (Some c)

-- a 204 was an operation of the caller
pub record Did (a : Asking) (c : Text) (command : Command) : Type 0 where
  pub done : Done
  pub acted : act (spent_by a c) (Some c) (names_of a.words) command ≡ Ok done
  pub next : a.outcome.next ≡ left_by a c done

module _ (a : Asking) (c : Text) (command : Command) (is : a.outcome ≡ step a.broker a.moment a.words a.ask)
    (d : IsGranted a c command) where
  abbrev q : Request Command
  q = request_of a.ask

  served_204 : Served a
  served_204 = served a is (omega (arith, ap code d.response))

  caller_is : served_204.caller ≡ Some c
  caller_is = elim served_204.asked [
    | inl open_ ↦ absurd (false≢true (sym d.closed ∙ open_.0))
    | inr (t, closed, is_token, caller, no_wait, there) ↦ caller ∙ sym is_token ∙ d.caller
  ]

  command_is : (caller : Option Text) → caller ≡ Some c → q.command (spent (clocked a) caller) ≡ Ok served_204.command
      → served_204.command ≡ command
  command_is caller is_c means =
      ok_inj (sym (subst (λ (o : Option Text). q.command (spent (clocked a) o) ≡ Ok served_204.command) is_c means)
      ∙ d.means)

  pub did : Did a c command
  did =
      let s = served_204 in
      let start = spent (clocked a) s.caller in
      let is_command = command_is s.caller caller_is s.means in
      let v = wrapped permits traits act start q (names_of a.words) s.command s.done in
      let response : response_to v.done.answered ≡ no_content = sym (ap (λ (x : Outcome). x.response) s.outcome)
      ∙ d.response in
      let plain_answer : v ≡ unwrapped s.done =
      elim (wrapped_cases permits traits act start q (names_of a.words) s.command s.done) [
        | inl e ↦ e
        | inr (r, made, wraps_, answered, is_wrapped) ↦
            absurd (reply_is_content _ (sym (ap (λ (x : Wrapped). response_to x.done.answered) is_wrapped) ∙ response))
      ] in
      record {
        done = s.done;
        acted = subst (λ (k : Command). act (spent_by a c) (Some c) (names_of a.words) k ≡ Ok s.done) is_command
            (subst (λ (o : Option Text). act (spent (clocked a) o) o (names_of a.words) s.command ≡ Ok s.done)
            caller_is s.acted);
        next = ap (λ (x : Outcome). x.next) s.outcome
            ∙ ap (λ (x : Wrapped). end_spent (record x.done.next { used = use_up x.done.next.used x.done.taken })
            s.caller) plain_answer
            ∙ ap (λ (o : Option Text). end_spent (record s.done.next { used = use_up s.done.next.used s.done.taken })
            o) caller_is;
      }

-- ---- revocations

module _ (a : Asking) (is : a.outcome ≡ step a.broker a.moment a.words a.ask) (c t : Text) where
  abbrev start : Broker
  start = spent_by a c

  -- what a command of tokens that revokes t does
  revokes : (command : TokenCommand) (d : Done) → revoked_of start c command ≡ Some t
      → act_on_tokens start c (names_of a.words) command ≡ Ok d → d ≡ revoke_token start t
  revokes (TokenCommand.Revoke u) d names done = sym (ok_inj done) ∙ ap (revoke_token start) (same_Some _ _ names)
  revokes (TokenCommand.RevokeAccessor accessor) d names done =
      sym (ok_inj (ap (λ o. some_or (Refusal.BadRequest Reason.InvalidAccessor) o >>= (λ u. Ok (revoke_token start u)))
      (sym names) ∙ done))
  revokes TokenCommand.RevokeSelf d names done = sym (ok_inj done) ∙ ap (revoke_token start) (same_Some _ _ names)
  revokes _ d names done = absurd (none-some _ names)

  revokes_by : (command : Command) (d : Done) → revoked_by start c command ≡ Some t
      → act start (Some c) (names_of a.words) command ≡ Ok d → d ≡ revoke_token start t
  revokes_by (on_token command) d names done = revokes command d names done
  revokes_by _ d names done = absurd (none-some _ names)

  -- what a revocation left
  pub revocation_left : Revokes a c t → a.outcome.next ≡ end_spent (drop_waiting (revoke start t) t) (Some c)
  revocation_left r =
      let k = did a c r.command is r.granted in
      k.next ∙ ap (left_by a c) (revokes_by r.command k.done r.text k.acted)

  orphans : (command : TokenCommand) (d : Done) → orphaning_of command ≡ Some t
      → act_on_tokens start c (names_of a.words) command ≡ Ok d → d ≡ revoke_alone start t
  orphans (TokenCommand.RevokeOrphan u) d names done = sym (ok_inj done) ∙ ap (revoke_alone start) (same_Some _ _ names)
  orphans _ d names done = absurd (none-some _ names)

  orphans_by : (command : Command) (d : Done) → orphaning_by command ≡ Some t
      → act start (Some c) (names_of a.words) command ≡ Ok d → d ≡ revoke_alone start t
  orphans_by (on_token command) d names done = orphans command d names done
  orphans_by _ d names done = absurd (none-some _ names)

  -- what a revocation of one token left
  pub orphaning_left : RevokesAlone a c t
      → a.outcome.next ≡ end_spent (drop_waiting (revoke_orphan start t) t) (Some c)
  orphaning_left r =
      let k = did a c r.command is r.granted in
      k.next ∙ ap (left_by a c) (orphans_by r.command k.done r.text k.acted)

-- a response to an operation that is a 204
content_is : (x : Answered) (r : Response) → r ≡ response_to x → r.status ≡ Status.NoContent → r ≡ no_content
content_is nothing r is code_is = is
content_is (reply y made) r is code_is = absurd (omega (arith, ap code is, ap status_code code_is))
content_is (kept_text t) r is code_is = absurd (omega (arith, ap code is, ap status_code code_is))
content_is (missing y) r is code_is = absurd (omega (arith, ap code is, ap status_code code_is))

-- a command that revokes and was carried out is a 204
answers_204 : (b : Broker) (c : Text) (names : Names) (command : TokenCommand) (d : Done)
    → (is_revocation command || is_orphaning command) ≡ true → act_on_tokens b c names command ≡ Ok d
    → d.answered ≡ nothing
answers_204 b c names (TokenCommand.Revoke u) d does done = ap (λ (z : Done). z.answered) (sym (ok_inj done))
answers_204 b c names (TokenCommand.RevokeOrphan u) d does done = ap (λ (z : Done). z.answered) (sym (ok_inj done))
answers_204 b c names TokenCommand.RevokeSelf d does done = ap (λ (z : Done). z.answered) (sym (ok_inj done))
answers_204 b c names (TokenCommand.RevokeAccessor accessor) d does done =
    ap (λ (z : Done). z.answered) (sym (ok_inj (ok_step (holder b accessor) (λ u. Ok (revoke_token b u)) d done).2))
answers_204 b c names _ d does done = absurd (false≢true does)

-- by a caller, for none else is served
called_204 : (b : Broker) (caller : Option Text) (names : Names) (command : TokenCommand) (d : Done)
    → (is_revocation command || is_orphaning command) ≡ true → act b caller names (on_token command) ≡ Ok d
    → d.answered ≡ nothing
called_204 b None names command d does done = no_ok done
called_204 b (Some c) names command d does done = answers_204 b c names command d does done

-- one that is asked is a 204, or refused
revoking_answer : (a : Asking) → a.outcome ≡ step a.broker a.moment a.words a.ask → (command : TokenCommand)
    → command_of (clocked a).mounts a.ask ≡ Ok (on_token command)
    → (is_revocation command || is_orphaning command) ≡ true
    → (a.outcome.response ≡ no_content) ⊎ IsRefused a.outcome.response
revoking_answer a is command means does = elim (refused_or_served a is) [
  | inl r ↦ inr r
  | inr s ↦
      let start = spent (clocked a) s.caller in
      let names = names_of a.words in
      let is_command : s.command ≡ on_token command =
      ok_inj (sym (means_at_clock a s.caller s.command s.means) ∙ means) in
      let answered : s.done.answered ≡ nothing =
      called_204 start s.caller names command s.done does
      (subst (λ (k : Command). act start s.caller names k ≡ Ok s.done) is_command s.acted) in
      inl (ap (λ (x : Outcome). x.response) s.outcome
      ∙ elim (wrapped_cases permits traits act start (request_of a.ask) names s.command s.done) [
        | inl e ↦ ap (λ (x : Wrapped). response_to x.done.answered) e ∙ ap response_to answered
        | inr (r, made, wraps_, replied, is_wrapped) ↦ absurd (nothing_is_no_reply answered replied)
      ])
]

-- what a command that revokes and was carried out revoked
revoked_text : (b : Broker) (c : Text) (names : Names) (command : TokenCommand) (d : Done)
    → is_revocation command ≡ true
    → act_on_tokens b c names command ≡ Ok d → (t : Text) × (revoked_of b c command ≡ Some t)
revoked_text b c names (TokenCommand.Revoke u) d does done = (u, refl)
revoked_text b c names (TokenCommand.RevokeAccessor accessor) d does done =
    let t = ok_step (holder b accessor) (λ u. Ok (revoke_token b u)) d done in
    (t.0, some_ok (Refusal.BadRequest Reason.InvalidAccessor) (named_by b accessor) t.1)
revoked_text b c names TokenCommand.RevokeSelf d does done = (c, refl)
revoked_text b c names _ d does done = absurd (false≢true does)

-- and one that revokes alone
orphaned_text : (command : TokenCommand) → is_orphaning command ≡ true → (t : Text) × (orphaning_of command ≡ Some t)
orphaned_text (TokenCommand.RevokeOrphan u) does = (u, refl)
orphaned_text _ does = absurd (false≢true does)

-- a 204 to a command of tokens was granted to a caller
module _ (a : Asking) (is : a.outcome ≡ step a.broker a.moment a.words a.ask) (command : TokenCommand)
    (means : command_of (clocked a).mounts a.ask ≡ Ok (on_token command))
    (empty_ : a.outcome.response.status ≡ Status.NoContent) where
  was_served : Served a
  was_served = served a is (omega (arith, ap status_code empty_))

  abbrev Acted : Option Text → Type 0
  Acted caller = act (spent (clocked a) caller) caller (names_of a.words) (on_token command) ≡ Ok was_served.done

  by_caller : (caller : Option Text) → IsCaller (clocked a) (request_of a.ask) caller → Acted caller
      → (c : Text) × IsGranted a c (on_token command) × Acted (Some c)
  by_caller caller (inl (open_, none)) done = no_ok (subst Acted none done)
  by_caller caller (inr (c, closed, is_token, is_c, no_wait, there)) done = (
    c,
    record {
      caller = is_token;
      closed = closed;
      means = means;
      response = content_is _ a.outcome.response (ap (λ (x : Outcome). x.response) was_served.outcome) empty_;
    },
    subst Acted is_c done,
  )

  granted : (c : Text) × IsGranted a c (on_token command) × Acted (Some c)
  granted =
      let s = was_served in
      let is_command : s.command ≡ on_token command =
      ok_inj (sym (means_at_clock a s.caller s.command s.means) ∙ means) in
      by_caller s.caller s.asked
      (subst (λ (k : Command). act (spent (clocked a) s.caller) s.caller (names_of a.words) k ≡ Ok s.done) is_command
      s.acted)

  revokes_at_204 : is_revocation command ≡ true → (c : Text) × (t : Text) × Revokes a c t
  revokes_at_204 does =
      let g = granted in
      let t = revoked_text (spent_by a g.0) g.0 (names_of a.words) command was_served.done does g.2 in
      (g.0, t.0, record { command = on_token command; granted = g.1; text = t.1 })

  orphans_at_204 : is_orphaning command ≡ true → (c : Text) × (t : Text) × RevokesAlone a c t
  orphans_at_204 does =
      let g = granted in
      let t = orphaned_text command does in
      (g.0, t.0, record { command = on_token command; granted = g.1; text = t.1 })

-- ---- the law of revocation

-- a token at the caller's clock was one before
called_was : (a : Asking) (c q : Text) → get (spent_by a c).tokens q ≢ None → get a.broker.tokens q ≢ None
called_was a c q there none = elim (found_or_not (get (spent_by a c).tokens q)) [
  | inl gone ↦ there gone
  | inr y ↦
      let x = valued_is (λ u (z : Token). if same u c then one_less z else z) (clocked a).tokens q y.0 y.1 in
      let w = alive_is (max a.broker.clock a.moment) a.broker.tokens q x.0 x.1 in
      none-some _ (sym none ∙ w.1)
]

pub called_tree : (a : Asking) (c : Text) → Sound forms None a.broker → IsTree (spent_by a c).tokens
called_tree a c sound =
    values_tree (λ u (z : Token). if same u c then one_less z else z) (clocked a).tokens
    (λ u z. elim (same u c) as (λ v. (if v then one_less z else z).parent ≡ z.parent) [ true ↦ refl | false ↦ refl ])
    (alive_tree (max a.broker.clock a.moment) a.broker.tokens (tree_of forms None None a.broker sound))

-- a token that comes to its end is none at the clock
due_is_gone : (a : Asking) (q : Text) → IsDue a q → get (clocked a).tokens q ≡ None
due_is_gone a q d = elim (found_or_not (get (clocked a).tokens q)) [
  | inl none ↦ none
  | inr y ↦
      let now = max a.broker.clock a.moment in
      let later : now < d.end =
      left_outlasts now a.broker.tokens q (λ none. none-some _ (sym none ∙ y.1)) d.above d.above_token d.end d.under
      d.there d.has_end in
      absurd (omega (arith, later, d.reached))
]

-- a token that does not, and that is under none that does, stays
pub not_due_stays : (a : Asking) (q : Text) (x : Token) → get a.broker.tokens q ≡ Some x → (IsDue a q → ⊥)
    → get (clocked a).tokens q ≡ Some (with_later_leases (max a.broker.clock a.moment) x)
not_due_stays a q x is not_due =
    let now = max a.broker.clock a.moment in
    outlasting_is_left now a.broker.tokens q x is (λ above y end under there ends.
    elim (nat_lt now end) as (λ v. nat_lt now end ≡ v → now < end) [
      | true ↦ λ later. ltb-true now end later
      | false ↦ λ over. absurd (not_due (record {
        above = above;
        under = under;
        above_token = y;
        there = there;
        end = end;
        has_end = ends;
        reached = ltb-false now end over;
      }))
    ] refl)

-- a revocation leaves all other wrapping tokens as they were
others_wait : (a : Asking) → a.outcome ≡ step a.broker a.moment a.words a.ask → (c t u : Text)
    → Revokes a c t ⊎ RevokesAlone a c t → u ≢ t → get a.outcome.next.waiting u ≡ get (clocked a).waiting u
others_wait a is c t u how other = by how
  where
    but_one : (d : Broker) → d.waiting ≡ (drop_waiting (clocked a) t).waiting
        → get d.waiting u ≡ get (clocked a).waiting u
    but_one d same_waiting =
        ap (λ (m : Map Waiting). get m u) same_waiting ∙ get-without (clocked a).waiting t u
        ∙ ap (λ v. cond v None (get (clocked a).waiting u))
        (false_from_ne_true (same u t) (λ e. other (same_true u t e)))

    by : Revokes a c t ⊎ RevokesAlone a c t → get a.outcome.next.waiting u ≡ get (clocked a).waiting u
    by (inl r) =
        but_one a.outcome.next (ap (λ (z : Broker). z.waiting) (revocation_left a is c t r)
        ∙ end_spent_waiting (drop_waiting (revoke (spent_by a c) t) t) (Some c))
    by (inr r) =
        but_one a.outcome.next (ap (λ (z : Broker). z.waiting) (orphaning_left a is c t r)
        ∙ end_spent_waiting (drop_waiting (revoke_orphan (spent_by a c) t) t) (Some c))

-- and was one before
due_was : (a : Asking) (q : Text) → IsDue a q → get a.broker.tokens q ≢ None
due_was a q d = (under_tokens a.broker.tokens q d.above d.under).0

-- a request by a client token that has ended is denied
denied_if_gone : (a : Asking) (q : Text) → a.outcome ≡ step a.broker a.moment a.words a.ask → a.ask.token ≡ Some q
    → is_open a.ask ≡ false → HasEnded (clocked a) q → a.outcome.response ≡ refused permission_denied
unfolding step
denied_if_gone a q is is_token closed ended =
    let go : Text → Outcome = λ c. finish (spend (clocked a) c) (Some c)
    (serve permits traits act (spend (clocked a) c) (Some c) (request_of a.ask) (names_of a.words)) in
    ap (λ (x : Outcome). x.response) is
    ∙ ap (λ v. (if v then finish (clocked a) None
    (serve permits traits act (clocked a) None (request_of a.ask) (names_of a.words))
    else for_caller (clocked a) a.ask.token go).response) closed
    ∙ ap (λ (o : Option Text). (for_caller (clocked a) o go).response) is_token
    ∙ ap (λ (o : Option Waiting). (if is_some o then denied (drop_waiting (clocked a) q)
    else (if is_some (get (clocked a).tokens q) then go q else denied (clocked a))).response) ended.not_waiting
    ∙ ap (λ (o : Option Token). (if is_some o then go q else denied (clocked a)).response) ended.gone

-- an open request of a wrapping token under which nothing waits is refused
module _ (a : Asking) (q : Text) (is : a.outcome ≡ step a.broker a.moment a.words a.ask)
    (open_ : is_open a.ask ≡ true) (none : get (clocked a).waiting q ≡ None) where
  abbrev names : Names
  names = names_of a.words

  abbrev r : Request Command
  r = request_of a.ask

  abbrev last_steps : Command → Result Wrapped Refusal
  last_steps command = do
    fresh ← unless (are_new (clocked a).used (needed permits traits act r names command)) Refusal.IdentifierUsed
    asked ← unless (not (traits command).must_wrap || nat_lt 0 r.wrap_ttl) (Refusal.BadRequest Reason.WrappingRequired)
    done ← act (clocked a) None names command
    Ok (wrapped permits traits act (clocked a) r names command done)

  open_step : (command : Command) → command_of (clocked a).mounts a.ask ≡ Ok command
      → a.outcome.response ≡ (finish (clocked a) None (last_steps command)).response
  unfolding step
  open_step command means =
      ap (λ (x : Outcome). x.response) is
      ∙ ap (λ (x : Outcome). x.response) (with_caller permits traits act a.broker a.moment r names None
      (inl (open_, refl)))
      ∙ ap (λ v. (finish (clocked a) None (unless (v || permits (clocked a) None a.ask.verb a.ask.path)
      permission_denied
      >>= (λ allowed. command_of (clocked a).mounts a.ask >>= last_steps))).response) open_
      ∙ ap (λ (x : Result Command Refusal). (finish (clocked a) None (x >>= last_steps)).response) means

  abbrev bad : Refusal
  bad = Refusal.BadRequest Reason.InvalidWrappingToken

  none_found : found (clocked a) (Some q) ≡ Err bad
  none_found = ap (λ o. some_or bad (option_map (found_under q) o)) none

  -- what is not wrapped needs its own identifiers alone
  own_alone : (own : List Text)
      → (if nat_lt 0 a.ask.wrap_ttl && false then names.wrapping_token ∷ names.wrapping_accessor ∷ own else own) ≡ own
  own_alone own =
      elim (nat_lt 0 a.ask.wrap_ttl) as
      (λ v. (if v && false then names.wrapping_token ∷ names.wrapping_accessor ∷ own else own) ≡ own) [
        | true ↦ refl
        | false ↦ refl
      ]

  -- the last steps of a look-up or an unwrap
  refused_400 : (own : List Text) → own ≡ []
      → (f : FoundResponse → Result Done Refusal) (g : Done → Result Wrapped Refusal)
      → (unless (are_new (clocked a).used own) Refusal.IdentifierUsed
      >>= (λ fresh. (found (clocked a) (Some q) >>= f) >>= g)) ≡ Err bad
  refused_400 own empty_ f g =
      ap (λ is. unless (are_new (clocked a).used is) Refusal.IdentifierUsed
      >>= (λ fresh. (found (clocked a) (Some q) >>= f) >>= g)) empty_
      ∙ ap (λ (x : Result FoundResponse Refusal). (x >>= f) >>= g) none_found

  refused_now : (x : Result Wrapped Refusal) (why : Refusal) → x ≡ Err why
      → (finish (clocked a) None x).response ≡ refused why
  refused_now x why e = ap (λ (y : Result Wrapped Refusal). (finish (clocked a) None y).response) e

  pub finds_none : (command : WrappingCommand) → command_of (clocked a).mounts a.ask ≡ Ok (on_wrapping command)
      → taken_as command ≡ Some q → FindsNone a command
  finds_none (WrappingCommand.Wrap text) means as_q = absurd (none-some _ as_q)
  finds_none (WrappingCommand.LookUp meant) means as_q =
      open_step (on_wrapping (WrappingCommand.LookUp meant)) means
      ∙ ap (λ u. (finish (clocked a) None (last_steps (on_wrapping (WrappingCommand.LookUp u)))).response) as_q
      ∙ refused_now (last_steps (on_wrapping (WrappingCommand.LookUp (Some q)))) bad
      (refused_400 (needed permits traits act r names (on_wrapping (WrappingCommand.LookUp (Some q)))) (own_alone []) _
      _)
  finds_none (WrappingCommand.Unwrap meant) means as_q =
      open_step (on_wrapping (WrappingCommand.Unwrap meant)) means
      ∙ ap (λ u. (finish (clocked a) None (last_steps (on_wrapping (WrappingCommand.Unwrap u)))).response) as_q
      ∙ refused_now (last_steps (on_wrapping (WrappingCommand.Unwrap (Some q)))) bad
      (refused_400 (needed permits traits act r names (on_wrapping (WrappingCommand.Unwrap (Some q)))) (own_alone []) _
      _)
  finds_none (WrappingCommand.Rewrap meant) means as_q =
      let rewrap : Command = on_wrapping (WrappingCommand.Rewrap (Some q)) in
      let steps : Bool → Result Wrapped Refusal = λ v. unless v Refusal.IdentifierUsed >>= (λ fresh.
      act_on_wrappings (clocked a) names (WrappingCommand.Rewrap (Some q))
      >>= (λ done. Ok (wrapped permits traits act (clocked a) r names rewrap done))) in
      open_step (on_wrapping (WrappingCommand.Rewrap meant)) means
      ∙ ap (λ u. (finish (clocked a) None (last_steps (on_wrapping (WrappingCommand.Rewrap u)))).response) as_q
      ∙ ap (λ is. (finish (clocked a) None (steps (are_new (clocked a).used is))).response)
      (own_alone (wrapping_names names))
      ∙ elim (are_new (clocked a).used (wrapping_names names)) as
      (λ v. (finish (clocked a) None (steps v)).response ≡ refused (if v then bad else Refusal.IdentifierUsed)) [
        | true ↦ refused_now (steps true) bad
            (ap (λ (x : Result FoundResponse Refusal). (x >>= (λ f. Ok (rewrapped (clocked a) names f)))
            >>= (λ done. Ok (wrapped permits traits act (clocked a) r names rewrap done))) none_found)
        | false ↦ refl
      ]

module _ (a : Asking) (sound : Sound forms None a.broker) (keeps : Keeps unwrapped_body a) (q : Text)
    (ends : EndsToken a q) where
  none_after : get a.outcome.next.tokens q ≡ None
  none_after = elim ends.gone [
    | inr e ↦ e
    | inl e ↦ elim (found_or_not (get a.outcome.next.tokens q)) [
      | inl none ↦ none
      | inr y ↦ elim (keeps.evolves.tokens q y.0 y.1) [
        | inl stood ↦ absurd (stood e)
        | inr new ↦ elim (found_or_not (get a.broker.tokens q)) [
          | inl none ↦ absurd (ends.was none)
          | inr x ↦ absurd (sound.identifiers.all_used (place.token q) (token_identifier q)
              (ap (option_map (λ (z : Token). token_identifier q)) x.1) new)
        ]
      ]
    ]
  ]

  token_ended : HasEnded a.outcome.next q
  token_ended = gone_has_ended a.broker a.outcome.next sound.identifiers (kept_evolves unwrapped_body a keeps) q
      none_after ends.was

  lease_gone : (lease_id : Text) (l : Lease) → lease_of a.broker q lease_id ≡ Some l
      → IsLeaseGone a.outcome.next lease_id l
  lease_gone = leases_are_gone a.broker a.outcome.next sound.identifiers (kept_evolves unwrapped_body a keeps) q
      none_after

  nothing_left : (b : Broker) → (a.outcome.next ≡ b) ⊎ Evolves a.outcome.next b → IsGone a q b
  nothing_left b (inl e) = subst (IsGone a q) e (record {
    no_token = none_after;
    no_cubbyhole = λ path. ap (option_and_then (λ (x : Token). get x.cubbyhole path)) none_after;
    no_lease = λ lease_id l was t other_id k is. (lease_gone lease_id l was).gone t other_id k is;
  })
  nothing_left b (inr e) =
      let gone = (ended_lasts a.outcome.next b q e token_ended).gone in
      record {
        no_token = gone;
        no_cubbyhole = λ path. ap (option_and_then (λ (x : Token). get x.cubbyhole path)) gone;
        no_lease = λ lease_id l was t other_id k is.
            (lease_lasts a.outcome.next b lease_id l e (lease_gone lease_id l was)).gone t other_id k is;
      }

module _ (told : OperationsDoAsTold) (b : Broker) (history : History) (h : AreAsked b history) where
  keep_all : EachKeeps unwrapped_body b history
  keep_all = history_keeps told b history h

  lasts : (i j : ℕ) (a x : Asking) (q : Text) → AskedAt history i a → EndsToken a q → AskedAt history j x → i ≤ j
      → IsGone a q x.outcome.next
  lasts i j a x q one ends other le =
      nothing_left a (asked_at b history i a h one).sound (asked_keeps unwrapped_body b history i a keep_all one) q
      ends x.outcome.next
      (left_since unwrapped_body b history i j a x keep_all one other le)

  ended_then : (i j : ℕ) (a x : Asking) (q : Text) → AskedAt history i a → EndsToken a q → AskedAt history j x → i < j
      → HasEnded (clocked x) q
  ended_then i j a x q one ends other lt =
      let ended = token_ended a (asked_at b history i a h one).sound
      (asked_keeps unwrapped_body b history i a keep_all one) q ends in
      let still = ended_lasts a.outcome.next x.broker q
      (evolved_since unwrapped_body b history i j a x keep_all one other lt) ended in
      ended_lasts x.broker (clocked x) q (at_moment_evolves x.broker x.moment) still

  pub revocation : Revocation history
  revocation = record {
    descends = λ i a q y at there.
        let is = asked_at b history i a h at in
        descends told a is.sound is.outcome q y there;
    stays = λ i a q x at is not_due. not_due_stays a q x is not_due;
    clock = λ i a at. refl;
    clock_left = λ i a at.
        let is = asked_at b history i a h at in
        (course told a is.sound is.outcome).clock;
    spends = λ i a c q at. get-change (clocked a).tokens c one_less q;
    responses = λ i a c t u at how other. others_wait a (asked_at b history i a h at).outcome c t u how other;
    answered = λ i a command at means does. revoking_answer a (asked_at b history i a h at).outcome command means does;
    each = λ i a command at means does is_204. revokes_at_204 a (asked_at b history i a h at).outcome command means
        is_204 does;
    each_alone = λ i a command at means does is_204. orphans_at_204 a (asked_at b history i a h at).outcome command
        means is_204 does;
    revoked = λ i a c t q at r under. record {
      was = called_was a c q (under_tokens (spent_by a c).tokens q t under).0;
      gone = inr (ap (λ (z : Broker). get z.tokens q) (revocation_left a (asked_at b history i a h at).outcome c t r)
          ∙ revoked_are_gone (spent_by a c) (drop_waiting (revoke (spent_by a c) t) t) t c refl q under);
    };
    others = λ i a c t q at r apart.
        let is = asked_at b history i a h at in
        ap (λ (z : Broker). get z.tokens q) (revocation_left a is.outcome c t r)
        ∙ others_are_left (spent_by a c) (drop_waiting (revoke (spent_by a c) t) t) t c refl
        (called_tree a c is.sound) q apart;
    alone = λ i a c t at r there. record {
      was = called_was a c t there;
      gone = inr (ap (λ (z : Broker). get z.tokens t) (orphaning_left a (asked_at b history i a h at).outcome c t r)
          ∙ orphaned_is_gone (spent_by a c) (drop_waiting (revoke_orphan (spent_by a c) t) t) t c refl);
    };
    children = λ i a c t q x at r other is parent free.
        ap (λ (z : Broker). get z.tokens q) (orphaning_left a (asked_at b history i a h at).outcome c t r)
        ∙ children_are_orphans (spent_by a c) (drop_waiting (revoke_orphan (spent_by a c) t) t) t c refl q x
        other is parent free;
    below = λ i a c t q x at r other under there parent stays.
        let is = asked_at b history i a h at in
        ap (λ (z : Broker). get z.tokens q) (orphaning_left a is.outcome c t r)
        ∙ below_are_left (spent_by a c) (drop_waiting (revoke_orphan (spent_by a c) t) t) t c refl
        (called_tree a c is.sound) q x other under there parent stays;
    ended_below = λ i a c t q at r ends.
        let is = asked_at b history i a h at in
        record {
          was = called_was a c q (under_tokens (spent_by a c).tokens q c ends.under_caller).0;
          gone = inr (ap (λ (z : Broker). get z.tokens q) (orphaning_left a is.outcome c t r)
              ∙ below_are_gone (spent_by a c) (drop_waiting (revoke_orphan (spent_by a c) t) t) t c refl
              (called_tree a c is.sound) q ends);
        };
    others_alone = λ i a c t q at r apart.
        let is = asked_at b history i a h at in
        ap (λ (z : Broker). get z.tokens q) (orphaning_left a is.outcome c t r)
        ∙ others_stay (spent_by a c) (drop_waiting (revoke_orphan (spent_by a c) t) t) t c refl
        (called_tree a c is.sound) q apart;
    due = λ i a q at d. record { was = due_was a q d; gone = inl (due_is_gone a q d) };
    due_denied = λ i a q at d is_token closed.
        let is = asked_at b history i a h at in
        denied_if_gone a q is.outcome is_token closed
        (at_moment_ends a.broker is.sound.identifiers a.moment q (due_was a q d) (due_is_gone a q d));
    lasts = lasts;
    leases_due = λ i j a x q lease_id l one d other le.
        lease_stays_out a (asked_at b history i a h one).sound (asked_keeps unwrapped_body b history i a keep_all one)
        q lease_id l d
        x.outcome.next (left_since unwrapped_body b history i j a x keep_all one other le);
    denied = λ i j a x q one ends other lt is_token closed.
        denied_if_gone x q (asked_at b history j x h other).outcome is_token closed
        (ended_then i j a x q one ends other lt);
    not_waiting = λ i j a x q command one ends other lt open_ means as_q.
        finds_none x q (asked_at b history j x h other).outcome open_
        (ended_then i j a x q one ends other lt).not_waiting command means as_q;
  }
