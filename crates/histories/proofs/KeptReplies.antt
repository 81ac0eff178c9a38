-- Responses that were kept are handed out once, as they were.
use Rattle.std.proofs.Common.{◌≡◌, ◌≢◌, ◌<◌, ◌≤◌, ◌⊎◌, ◌&&◌, ◌∷◌, if◌then◌else◌}
use Rattle.broker_types.specs.Broker.{revoke, revoke_orphan}
use Rattle.histories.specs.Words.{nat_lt, ℕ, max, [], Bool, true, false, cond, is_some, Option, Some, None, Ok}
use Rattle.histories.specs.Words.{option_map, option_map_or, refl, sym, ◌∙◌, ap, subst, inl, inr, arith, false≢true}
use Rattle.histories.specs.Words.{false_from_ne_true, none-some, same_Some, Text, same, IsRefused, Response, same_true}
use Rattle.histories.specs.Words.{Map, get, without, get-put, get-without_self, no_entry, Broker, Waiting}
use Rattle.histories.specs.Words.{waiting_ends, Evolves, IsTakenOut, names_of, reply, plainly, Done, found_or_not}
use Rattle.histories.specs.Words.{mapped, token_identifier, wrapping_token, ◌>>=◌, some_or, ok_step, Sound, spend}
use Rattle.histories.specs.Words.{drop_waiting, status_code, token_text, are_new, use_up, Refusal, ok_inj, moved}
use Rattle.histories.specs.Words.{with_waiting, reply_text, wrap_reply, act, Command, on_wrapping, command_of, forms}
use Rattle.histories.specs.Words.{OperationsDoAsTold, Outcome, Wrapped, denied, finish, for_caller, response_to, serve}
use Rattle.histories.specs.Words.{wrap_info, wrapped, wraps, permits, ok, request_of, step, traits, wrapping_names}
use Rattle.histories.specs.Words.{wrapping_traits, FoundResponse, found, found_at, found_under, handed_out, rewrapped}
use Rattle.histories.specs.Words.{shown_response, act_on_wrappings, Reason, Status, WrappingCommand, AreAsked, Asking}
use Rattle.histories.specs.Words.{AskedAt, Beginning, History, begun, clocked, spent_by, EndsWrappingToken}
use Rattle.histories.specs.Words.{HandedOutOnce, HandsOutKept, HasAsClient, IsKeptReply, KeepsReply, Rewraps}
use Rattle.histories.specs.Words.{SameReply, looked_up_text, rewrapped_text, TakesTokenOut, Tells, Unwraps}
use Rattle.histories.specs.Words.{WaitedFirst, unwrapped_answer, unwrapped_body, Revokes, RevokesAlone, lt-ltb}
use Rattle.histories.specs.Words.{and_from, Names, Answered, nothing, kept_text, missing, is_kept, kept_entry}
use Rattle.histories.specs.Words.{unwrapped, wrap_200, are_proper, Request, stays_plain}
use Rattle.histories.proofs.Cover.{one_birth}
use Rattle.histories.proofs.Ending.{out_lasts}
use Rattle.histories.proofs.Keeping.{EachKeeps, Keeps}
use Rattle.histories.proofs.Lasting.{asked_keeps, evolved_since, handed_once, kept_evolves, left_since, waited_before}
use Rattle.histories.proofs.Lasting.{waits_since}
use Rattle.histories.proofs.Order.{some_ok, spent, end_spent_waiting, first_new, own_new, spent_clock, spent_used}
use Rattle.histories.proofs.Order.{spent_waiting, wrapped_cases, acts_same, answers_plainly, asked_at, history_keeps}
use Rattle.histories.proofs.Order.{means_at_clock, Served, refused_or_served, served, was_kept, tells_body}
use Rattle.histories.proofs.RevocationLasts.{orphaning_left, revocation_left}

-- ---- a 200 to an ask with a wrap TTL is wrapped

-- the reply to any other command may be wrapped
may_wrap : (command : Command) → stays_plain command ≡ false → (traits command).may_wrap ≡ true
may_wrap (on_wrapping (WrappingCommand.LookUp meant)) e = absurd (false≢true (sym e))
may_wrap (on_wrapping (WrappingCommand.Rewrap meant)) e = absurd (false≢true (sym e))
may_wrap (on_wrapping (WrappingCommand.Unwrap meant)) e = absurd (false≢true (sym e))
may_wrap _ e = refl

module _ (told : OperationsDoAsTold) (a : Asking) (sound : Sound forms None a.broker)
    (is : a.outcome ≡ step a.broker a.moment a.words a.ask) (ttl : 0 < a.ask.wrap_ttl) (command : Command)
    (means : command_of (clocked a).mounts a.ask ≡ Ok command) (is_wrapped : stays_plain command ≡ false)
    (success : a.outcome.response.status ≡ Status.Success) where
  abbrev names : Names
  names = names_of a.words

  abbrev q : Request Command
  q = request_of a.ask

  it_was_served : Served a
  it_was_served = served a is (omega (arith, ap status_code success))

  module _ (s : Served a) where
    abbrev start : Broker
    start = spent (clocked a) s.caller

    is_command : s.command ≡ command
    is_command = ok_inj (sym (means_at_clock a s.caller s.command s.means) ∙ means)

    wraps_it : wraps permits traits act q s.command ≡ true
    wraps_it =
        and_from (nat_lt 0 a.ask.wrap_ttl) (traits s.command).may_wrap (lt-ltb 0 a.ask.wrap_ttl ttl)
        (may_wrap s.command (ap stays_plain is_command ∙ is_wrapped))

    -- what was answered, wrapped
    wrapped_is : wrapped permits traits act start q names s.command s.done
        ≡ wrap_200 start a.ask.path a.ask.wrap_ttl names s.done s.done.answered
    wrapped_is =
        ap (λ v. if v then wrap_200 start a.ask.path a.ask.wrap_ttl names s.done s.done.answered
        else unwrapped s.done) wraps_it

    wrapped_as : (x : Answered) → s.done.answered ≡ x
        → wrapped permits traits act start q names s.command s.done
        ≡ wrap_200 start a.ask.path a.ask.wrap_ttl names s.done x
    wrapped_as x answered = wrapped_is ∙ ap (wrap_200 start a.ask.path a.ask.wrap_ttl names s.done) answered

    -- the code of an answer that was not wrapped
    code_is : (x : Answered) → s.done.answered ≡ x → wrapped permits traits act start q names s.command s.done
        ≡ unwrapped s.done
        → 200 ≡ status_code (response_to x).status
    code_is x answered plain =
        sym (ap status_code success) ∙ ap (λ (o : Outcome). status_code o.response.status) s.outcome
        ∙ ap (λ (v : Wrapped). status_code (response_to v.done.answered).status) plain
        ∙ ap (λ y. status_code (response_to y).status) answered

    by_answer : (x : Answered) → s.done.answered ≡ x → KeepsReply a (unwrapped_body a) names.wrapping_token
    by_answer nothing answered = absurd (omega (arith, code_is nothing answered (wrapped_as nothing answered)))
    by_answer (missing r) answered = absurd (omega
        (arith, code_is (missing r) answered (wrapped_as (missing r) answered)))
    by_answer (kept_text t) answered =
        absurd (false≢true (sym ((told start s.caller a.words s.command s.done s.acted).not_kept
        (may_wrap s.command (ap stays_plain is_command ∙ is_wrapped))) ∙ ap is_kept answered))
    by_answer (reply r made) answered =
        was_kept permits traits act unwrapped_body a q refl refl
        (λ c caller k d new done. are_proper told c caller a.words k d new done)
        sound.identifiers sound.waiting (tells_body told a) s (kept_entry start a.ask.path a.ask.wrap_ttl names r)
        (r, made, wraps_it, answered, wrapped_as (reply r made) answered) refl

  pub keeps_reply : KeepsReply a (unwrapped_body a) names.wrapping_token
  keeps_reply = by_answer it_was_served it_was_served.done.answered refl

-- ---- a 200

module _ (a : Asking) (is : a.outcome ≡ step a.broker a.moment a.words a.ask)
    (success : a.outcome.response.status ≡ Status.Success)
    (command : WrappingCommand) (means : command_of (clocked a).mounts a.ask ≡ Ok (on_wrapping command)) where
  pub served_200 : Served a
  served_200 = served a is (omega (arith, ap status_code success))

  pub command_is : served_200.command ≡ on_wrapping command
  command_is = ok_inj (sym (means_at_clock a served_200.caller served_200.command served_200.means) ∙ means)

  -- the operation ran
  pub acted : act_on_wrappings (spent (clocked a) served_200.caller) (names_of a.words) command ≡ Ok served_200.done
  acted =
      let caller = served_200.caller in
      sym (acts_same (spent (clocked a) caller) caller (names_of a.words) command)
      ∙ ap (λ (k : Command). act (spent (clocked a) caller) caller (names_of a.words) k) (sym command_is)
      ∙ served_200.acted

-- what an operation left is wrapped or not, and hands out the same
pub handed_same : (a : Asking) (s : Served a)
    → a.outcome.handed ≡ s.done.handed
handed_same a s =
    let start = spent (clocked a) s.caller in
    ap (λ (x : Outcome). x.handed) s.outcome
    ∙ elim (wrapped_cases permits traits act start (request_of a.ask) (names_of a.words) s.command s.done) [
      | inl e ↦ ap (λ (x : Wrapped). x.done.handed) e
      | inr (r, made, wraps_, answered, is_wrapped) ↦ ap (λ (x : Wrapped). x.done.handed) is_wrapped
    ]

abbrev pub bad : Refusal
bad = Refusal.BadRequest Reason.InvalidWrappingToken

-- a 200 to an unwrap handed out
pub unwrap_hands_out : (a : Asking) (t o : Text) → a.outcome ≡ step a.broker a.moment a.words a.ask → Unwraps a t o
    → a.outcome.handed ≡ Some o
unwrap_hands_out a t o is u =
    let s = served_200 a is u.success (WrappingCommand.Unwrap (Some t)) u.means in
    let start = spent (clocked a) s.caller in
    let there : get start.waiting t ≡ Some u.entry =
    ap (λ (m : Map Waiting). get m t) (spent_waiting (clocked a) s.caller) ∙ u.waited in
    let done : handed_out start (found_under t u.entry) ≡ s.done =
    ok_inj (ap (λ x. some_or bad (option_map (found_under t) x) >>= (λ f. Ok (handed_out start f))) (sym there)
    ∙ acted a is u.success (WrappingCommand.Unwrap (Some t)) u.means) in
    handed_same a s ∙ ap (λ (d : Done). d.handed) (sym done) ∙ ap Some u.origin

-- and there was something to hand out
found_is : (b : Broker) (meant : Option Text) (f : FoundResponse) → found_at b meant ≡ Some f
    → (t : Text) × (w : Waiting) × (meant ≡ Some t) × (get b.waiting t ≡ Some w)
found_is b None f e = absurd (none-some _ e)
found_is b (Some t) f e = let w = mapped (found_under t) (get b.waiting t) f e in (t, w.0, refl, w.1)

pub unwrap_found : (a : Asking) (meant : Option Text) → a.outcome ≡ step a.broker a.moment a.words a.ask
    → command_of (clocked a).mounts a.ask ≡ Ok (on_wrapping (WrappingCommand.Unwrap meant))
    → a.outcome.response.status ≡ Status.Success
    → (t : Text) × (o : Text) × (meant ≡ Some t) × Unwraps a t o
unwrap_found a meant is means success =
    let s = served_200 a is success (WrappingCommand.Unwrap meant) means in
    let start = spent (clocked a) s.caller in
    let f = ok_step (found start meant) (λ f. Ok (handed_out start f)) s.done
    (acted a is success (WrappingCommand.Unwrap meant) means) in
    let w = found_is start meant f.0 (some_ok bad (found_at start meant) f.1) in (
      w.0,
      (w.1).origin,
      w.2,
      record {
        means = means ∙ ap (λ m. Ok (on_wrapping (WrappingCommand.Unwrap m))) w.2;
        success = success;
        entry = w.1;
        waited = ap (λ (m : Map Waiting). get m w.0) (sym (spent_waiting (clocked a) s.caller)) ∙ w.3;
        origin = refl;
      },
    )

-- ---- what is told

never : (v : Bool) → (v && false) ≡ true → ⊥
never true e = false≢true e
never false e = false≢true e

-- what was found waited under the wrapping token that was meant
pub found_under_meant : (b : Broker) (meant : Option Text) (f : FoundResponse) → found_at b meant ≡ Some f
    → (t : Text) × (w : Waiting) × (meant ≡ Some t) × (get b.waiting t ≡ Some w) × (f ≡ found_under t w)
found_under_meant b None f e = absurd (none-some _ e)
found_under_meant b (Some t) f e = let w = mapped (found_under t) (get b.waiting t) f e in (t, w.0, refl, w.1, w.2)

-- a command whose reply is not wrapped, and that does something with what it finds, tells of that, or is refused
module _ (a : Asking) (is : a.outcome ≡ step a.broker a.moment a.words a.ask) (command : WrappingCommand)
    (means : command_of (clocked a).mounts a.ask ≡ Ok (on_wrapping command))
    (plain : (wrapping_traits command).may_wrap ≡ false)
    (meant : Option Text) (go : Broker → FoundResponse → Done) (text : Waiting → Text)
    (does : (b : Broker) → act_on_wrappings b (names_of a.words) command ≡ (found b meant >>= (λ f. Ok (go b f))))
    (tells : (caller : Option Text) (t : Text) (w : Waiting)
    → response_to (go (spent (clocked a) caller) (found_under t w)).answered ≡ ok (text w)) where
  pub tells_or_refuses : IsRefused a.outcome.response ⊎ Tells a meant text
  tells_or_refuses = elim (refused_or_served a is) [
    | inl r ↦ inl r
    | inr s ↦
        let start = spent (clocked a) s.caller in
        let names = names_of a.words in
        let is_command : s.command ≡ on_wrapping command =
        ok_inj (sym (means_at_clock a s.caller s.command s.means) ∙ means) in
        let ran : (found start meant >>= (λ f. Ok (go start f))) ≡ Ok s.done =
        sym (does start) ∙ sym (acts_same start s.caller names command)
        ∙ subst (λ (k : Command). act start s.caller names k ≡ Ok s.done) is_command s.acted in
        let f = ok_step (found start meant) (λ f. Ok (go start f)) s.done ran in
        let w = found_under_meant start meant f.0 (some_ok bad (found_at start meant) f.1) in
        inr (record {
          token = w.0;
          is_meant = w.2;
          entry = w.1;
          waited = ap (λ (m : Map Waiting). get m w.0) (sym (spent_waiting (clocked a) s.caller)) ∙ w.3;
          response = ap (λ (x : Outcome). x.response) s.outcome
              ∙ elim (wrapped_cases permits traits act start (request_of a.ask) names s.command s.done) [
                | inl e ↦ ap (λ (x : Wrapped). response_to x.done.answered) e
                | inr (r, made, wraps_, answered, is_wrapped) ↦
                    absurd (never (nat_lt 0 a.ask.wrap_ttl) (sym (ap (λ v. nat_lt 0 a.ask.wrap_ttl && v) plain)
                    ∙ sym (ap (λ (k : Command). wraps permits traits act (request_of a.ask) k) is_command) ∙ wraps_))
              ]
              ∙ ap (λ (d : Done). response_to d.answered) (sym (ok_inj f.2))
              ∙ ap (λ (x : FoundResponse). response_to (go start x).answered) w.4
              ∙ tells s.caller w.0 w.1;
        })
  ]

-- ---- wrapping tokens that are taken out

-- a rewrap is not wrapped itself
pub next_waiting : (a : Asking) {meant : Option Text} (s : Served a)
    → s.command ≡ on_wrapping (WrappingCommand.Rewrap meant) → a.outcome.next.waiting ≡ s.done.next.waiting
next_waiting a s is =
    let start = spent (clocked a) s.caller in
    let v = wrapped permits traits act start (request_of a.ask) (names_of a.words) s.command s.done in
    ap (λ (x : Outcome). x.next.waiting) s.outcome
    ∙ end_spent_waiting (record v.done.next { used = use_up v.done.next.used v.done.taken }) s.caller
    ∙ elim (wrapped_cases permits traits act start (request_of a.ask) (names_of a.words) s.command s.done) [
      | inl e ↦ ap (λ (x : Wrapped). x.done.next.waiting) e
      | inr (r, made, wraps_, answered, is_wrapped) ↦
          absurd (never (nat_lt 0 a.ask.wrap_ttl)
          (sym (ap (λ (k : Command). wraps permits traits act (request_of a.ask) k) is) ∙ wraps_))
    ]

module _ (a : Asking) (sound : Sound forms None a.broker) (keeps : Keeps unwrapped_body a)
    (is : a.outcome ≡ step a.broker a.moment a.words a.ask) (t : Text) (waited : get (clocked a).waiting t ≢ None) where
  used_before : get a.broker.used (token_identifier t) ≢ None
  used_before = elim (found_or_not (get (clocked a).waiting t)) [
    | inl none ↦ absurd (waited none)
    | inr w ↦ sound.identifiers.all_used (wrapping_token t) (token_identifier t)
        (ap (option_map (λ (z : Waiting). token_identifier t)) (waited_before a t w.0 w.1).0)
  ]

  out : get a.outcome.next.waiting t ≡ None → IsTakenOut a.outcome.next t
  out gone = record { used = (kept_evolves unwrapped_body a keeps).used (token_identifier t) used_before; gone = gone }

  by_client : HasAsClient a t → get a.outcome.next.waiting t ≡ None
  unfolding step
  by_client c =
      let go : Text → Outcome = λ u. finish (spend (clocked a) u) (Some u)
      (serve permits traits act (spend (clocked a) u) (Some u) (request_of a.ask) (names_of a.words)) in
      ap (λ (x : Outcome). get x.next.waiting t) is
      ∙ ap (λ v. get (if v then finish (clocked a) None
      (serve permits traits act (clocked a) None (request_of a.ask) (names_of a.words))
      else for_caller (clocked a) a.ask.token go).next.waiting t) c.closed
      ∙ ap (λ (o : Option Text). get (for_caller (clocked a) o go).next.waiting t) c.token
      ∙ elim (found_or_not (get (clocked a).waiting t)) [
        | inl none ↦ absurd (waited none)
        | inr w ↦ ap (λ (o : Option Waiting). get (if is_some o then denied (drop_waiting (clocked a) t)
            else (if is_some (get (clocked a).tokens t) then go t else denied (clocked a))).next.waiting t) w.1
            ∙ get-without_self (clocked a).waiting t
      ]

  by_revocation : (c : Text) → Revokes a c t → get a.outcome.next.waiting t ≡ None
  by_revocation c r =
      ap (λ (z : Broker). get z.waiting t) (revocation_left a is c t r)
      ∙ ap (λ (m : Map Waiting). get m t) (end_spent_waiting (drop_waiting (revoke (spent_by a c) t) t) (Some c))
      ∙ get-without_self (spent_by a c).waiting t

  by_orphaning : (c : Text) → RevokesAlone a c t → get a.outcome.next.waiting t ≡ None
  by_orphaning c r =
      ap (λ (z : Broker). get z.waiting t) (orphaning_left a is c t r)
      ∙ ap (λ (m : Map Waiting). get m t) (end_spent_waiting (drop_waiting (revoke_orphan (spent_by a c) t) t)
      (Some c))
      ∙ get-without_self (spent_by a c).waiting t

  by_rewrap : Rewraps a t → get a.outcome.next.waiting t ≡ None
  by_rewrap r = elim (found_or_not (get (clocked a).waiting t)) [
    | inl none ↦ absurd (waited none)
    | inr w ↦
        let rewrap = WrappingCommand.Rewrap (Some t) in
        let s = served_200 a is r.success rewrap r.means in
        let start = spent (clocked a) s.caller in
        let names = names_of a.words in
        let u = token_text names.wrapping_token in
        let there : get start.waiting t ≡ Some w.0 =
        ap (λ (m : Map Waiting). get m t) (spent_waiting (clocked a) s.caller) ∙ w.1 in
        let done : rewrapped start names (found_under t w.0) ≡ s.done =
        ok_inj (ap (λ x. some_or bad (option_map (found_under t) x) >>= (λ f. Ok (rewrapped start names f))) (sym there)
        ∙ acted a is r.success rewrap r.means) in
        let new : are_new start.used (wrapping_names names) ≡ true =
        subst (λ (k : Command). are_new start.used ((traits k).own names) ≡ true)
        (command_is a is r.success rewrap r.means)
        (own_new permits traits act start.used (request_of a.ask) names s.command s.new) in
        let fresh : get start.used names.wrapping_token ≡ None =
        first_new start.used names.wrapping_token (names.wrapping_accessor ∷ []) new in
        let apart : same t u ≡ false =
        false_from_ne_true (same t u) (λ e. used_before
        (ap (get a.broker.used) (ap token_identifier (same_true t u e))
        ∙ ap (λ m. get m names.wrapping_token) (sym (spent_used (clocked a) s.caller)) ∙ fresh)) in
        let entry = moved names.wrapping_accessor start.clock w.0 in
        ap (λ (m : Map Waiting). get m t) (next_waiting a s (command_is a is r.success rewrap r.means))
        ∙ ap (λ (d : Done). get d.next.waiting t) (sym done)
        ∙ ap (λ (o : Option Waiting). get (option_map_or (λ v. with_waiting (drop_waiting start t) u
        (moved names.wrapping_accessor start.clock v)) o start).waiting t) there
        ∙ get-put (without start.waiting t) u entry t
        ∙ ap (λ v. cond v (Some entry) (get (without start.waiting t) t)) apart
        ∙ get-without_self start.waiting t
  ]

  by_unwrap : (o : Text) → Unwraps a t o → get a.outcome.next.waiting t ≡ None
  by_unwrap o u =
      let h = keeps.hands_out o (unwrap_hands_out a t o is u) in
      let one : t ≡ h.token =
      sound.waiting.one_origin t h.token u.entry h.entry (waited_before a t u.entry u.waited).0
      (waited_before a h.token h.entry h.waited).0 (u.origin ∙ sym h.origin) in
      ap (get a.outcome.next.waiting) one ∙ h.out.gone

  -- a request that took it out left it out
  pub taken_out : TakesTokenOut a t → IsTakenOut a.outcome.next t
  taken_out k = out (elim k.how [
    | inl c ↦ by_client c
    | inr x ↦ elim x [
      | inl r ↦ by_revocation r.0 r.1
      | inr y ↦ elim y [ inl r ↦ by_orphaning r.0 r.1 | inr r ↦ by_rewrap r ]
    ]
  ])

-- ---- wrapping tokens that ended

-- what waits at a clock waited before it
waited_then : (a : Asking) (t : Text) → get (clocked a).waiting t ≢ None → get a.broker.waiting t ≢ None
waited_then a t there none = elim (found_or_not (get (clocked a).waiting t)) [
  | inl gone ↦ there gone
  | inr w ↦ none-some _ (sym none ∙ (waited_before a t w.0 w.1).0)
]

-- a request that took a wrapping token out, or unwrapped it, ended it
ended_by : (a : Asking) → Sound forms None a.broker → Keeps unwrapped_body a
    → a.outcome ≡ step a.broker a.moment a.words a.ask
    → (t : Text) → TakesTokenOut a t ⊎ ((o : Text) × Unwraps a t o) → EndsWrappingToken a t
ended_by a sound keeps is t (inl k) = record {
  was = waited_then a t k.waited;
  gone = inr (taken_out a sound keeps is t k.waited k).gone;
}
ended_by a sound keeps is t (inr (o, u)) =
    let waited : get (clocked a).waiting t ≢ None = λ none. none-some _ (sym none ∙ u.waited) in
    record { was = waited_then a t waited; gone = inr (by_unwrap a sound keeps is t waited o u) }

-- so did a request by whose clock its time was over
ended_in_time : (a : Asking) (t : Text) (w : Waiting) → get a.broker.waiting t ≡ Some w
    → waiting_ends w ≤ max a.broker.clock a.moment
    → EndsWrappingToken a t
ended_in_time a t w waits over = record {
  was = λ none. none-some _ (sym none ∙ waits);
  gone = inl (elim (found_or_not (get (clocked a).waiting t)) [
    | inl none ↦ none
    | inr v ↦
        let before = waited_before a t v.0 v.1 in
        let one : waiting_ends w ≡ waiting_ends v.0 = ap waiting_ends (same_Some _ _ (sym waits ∙ before.0)) in
        let later : max a.broker.clock a.moment < waiting_ends v.0 = before.1 in
        absurd (omega (arith, over, one, later))
  ]);
}

module _ (a : Asking) (sound : Sound forms None a.broker) (keeps : Keeps unwrapped_body a) (t : Text)
    (ends : EndsWrappingToken a t) where
  token_used : get a.broker.used (token_identifier t) ≢ None
  token_used = elim (found_or_not (get a.broker.waiting t)) [
    | inl none ↦ absurd (ends.was none)
    | inr w ↦ sound.identifiers.all_used (wrapping_token t) (token_identifier t)
        (ap (option_map (λ (z : Waiting). token_identifier t)) w.1)
  ]

  none_after : get a.outcome.next.waiting t ≡ None
  none_after = elim ends.gone [
    | inr e ↦ e
    | inl e ↦ elim (found_or_not (get a.outcome.next.waiting t)) [
      | inl none ↦ none
      | inr w ↦ elim (keeps.evolves.wrapping_tokens t w.0 w.1) [
        | inl waited ↦ absurd (waited e)
        | inr new ↦ absurd (token_used new)
      ]
    ]
  ]

  out_after : IsTakenOut a.outcome.next t
  out_after = record {
    used = (kept_evolves unwrapped_body a keeps).used (token_identifier t) token_used;
    gone = none_after;
  }

  -- it is in nothing that the request left, or that evolved from it
  stays_out : (b : Broker) → (a.outcome.next ≡ b) ⊎ Evolves a.outcome.next b → get b.waiting t ≡ None
  stays_out b (inl e) = ap (λ (z : Broker). get z.waiting t) (sym e) ∙ none_after
  stays_out b (inr e) = (out_lasts a.outcome.next b t e out_after).gone

-- ---- the plain answer

-- a reply that was kept would have been a 200
plain_200 : (a : Asking) (o text : Text) → a.outcome ≡ step a.broker a.moment a.words a.ask → a.outcome.born ≡ Some o
    → a.outcome.response ≡ ok text → unwrapped_answer a ≡ ok (unwrapped_body a)
plain_200 a o text is born told =
    let s = served a is (omega (arith, ap (λ (x : Response). status_code x.status) told)) in
    let start = spent (clocked a) s.caller in
    elim (wrapped_cases permits traits act start (request_of a.ask) (names_of a.words) s.command s.done) [
      | inl e ↦ absurd (none-some _ (sym (ap (λ (x : Outcome). x.born) s.outcome ∙ ap (λ (x : Wrapped). x.born) e)
          ∙ born))
      | inr (r, made, wraps_, answered, is_wrapped) ↦
          let e = answers_plainly a s r made answered in
          e ∙ ap (λ (x : Response). ok x.text) (sym e)
    ]

-- ---- the laws

module _ (told : OperationsDoAsTold) (b : Broker) (history : History) (h : AreAsked b history) where
  abbrev keep_all : EachKeeps unwrapped_body b history
  keep_all = history_keeps told b history h

  -- a response is handed out once
  pub hands_out_once : HandedOutOnce history
  hands_out_once = record {
    each = λ i a meant at means success. unwrap_found a meant (asked_at b history i a h at).outcome means success;
    once = λ i j a x t u o one p other q.
        handed_once unwrapped_body b history keep_all i j a x o
        one (unwrap_hands_out a t o (asked_at b history i a h one).outcome p)
        other (unwrap_hands_out x u o (asked_at b history j x h other).outcome q);
    in_time = λ i a t o one p.
        let before = (waited_before a t p.entry p.waited).1 in
        (before, omega (arith, before));
    still_in = λ i j a x t o one takes other lt p.
        let gone =
        out_lasts a.outcome.next x.broker t (evolved_since unwrapped_body b history i j a x keep_all one other lt)
        (taken_out a (asked_at b history i a h one).sound (asked_keeps unwrapped_body b history i a keep_all one)
        (asked_at b history i a h one).outcome t takes.waited takes) in
        none-some _ (sym gone.gone ∙ (waited_before x t p.entry p.waited).0);
    ended = λ i a t at how.
        let is = asked_at b history i a h at in
        ended_by a is.sound (asked_keeps unwrapped_body b history i a keep_all at) is.outcome t how;
    due = λ i a t w at waits over. ended_in_time a t w waits over;
    out = λ i j a x t one ends other le.
        stays_out a (asked_at b history i a h one).sound (asked_keeps unwrapped_body b history i a keep_all one) t
        ends x.outcome.next
        (left_since unwrapped_body b history i j a x keep_all one other le);
    unwraps = λ i a meant at means.
        tells_or_refuses a (asked_at b history i a h at).outcome (WrappingCommand.Unwrap meant) means refl meant
        handed_out
        (λ w. w.reply) (λ start. refl) (λ caller t w. refl);
    looks_up = λ i a meant at means.
        tells_or_refuses a (asked_at b history i a h at).outcome (WrappingCommand.LookUp meant) means refl meant
        (λ start f. plainly (reply (shown_response (names_of a.words) f) None) start) (looked_up_text a) (λ start. refl)
        (λ caller t w. refl);
    rewraps = λ i a meant at means.
        let names = names_of a.words in
        tells_or_refuses a (asked_at b history i a h at).outcome (WrappingCommand.Rewrap meant) means refl meant
        (λ start f. rewrapped start names f) (rewrapped_text a) (λ start. refl)
        (λ caller t w. ap (λ n. ok (reply_text (wrap_reply names.request
        (wrap_info (token_text names.wrapping_token) (moved names.wrapping_accessor n w) None))))
        (spent_clock (clocked a) caller));
  }

  kept_or_first : (j : ℕ) (x : Asking) (t o : Text) → AskedAt history j x → Unwraps x t o
      → IsKeptReply history j x o ⊎ WaitedFirst b x o
  kept_or_first j x t o at u =
      let k = (asked_keeps unwrapped_body b history j x keep_all at).hands_out o
      (unwrap_hands_out x t o (asked_at b history j x h at).outcome u) in
      elim (waits_since unwrapped_body b history j x keep_all at k.token k.entry
      (waited_before x k.token k.entry k.waited).0) [
        | inl (s, v, there, same_origin, same_reply) ↦ inr (record {
          token = s;
          entry = v;
          waited = there;
          origin = sym same_origin ∙ k.origin;
          body = k.response ∙ ap ok same_reply;
        })
        | inr r ↦ inl (record {
          place = r.place;
          earlier = r.earlier;
          asking = r.asking;
          asked = r.asked;
          born = r.born.origin ∙ ap Some k.origin;
          kept = subst (KeepsReply r.asking (unwrapped_body r.asking)) k.origin r.born.kept;
          plain = plain_200 r.asking _ _ (asked_at b history r.place r.asking h r.asked).outcome r.born.origin
              r.born.kept.told;
          body = k.response ∙ ap ok r.born.reply;
        })
      ]

  -- what is handed out is what was kept
  pub hands_out_kept : HandsOutKept b history
  hands_out_kept = record {
    one_birth = one_birth unwrapped_body b history keep_all;
    same = kept_or_first;
    wraps = λ i a command at ttl means is_wrapped success.
        let is = asked_at b history i a h at in
        keeps_reply told a is.sound is.outcome ttl command means is_wrapped success;
  }

-- from a start on, where nothing waits, it is the reply to a request
pub same_reply : OperationsDoAsTold → (s : Beginning) (history : History) → AreAsked (begun s) history
    → SameReply history
same_reply told s history h = record {
  one_birth = (hands_out_kept told (begun s) history h).one_birth;
  same = λ j x t o at u. elim ((hands_out_kept told (begun s) history h).same j x t o at u) [
    | inl kept ↦ kept
    | inr first ↦ absurd (no_entry first.token first.entry first.waited)
  ];
  wraps = (hands_out_kept told (begun s) history h).wraps;
}
