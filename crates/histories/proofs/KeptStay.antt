-- A kept response stays where it waits, until it is taken away.
use Rattle.std.proofs.Common.{◌≡◌, ◌≢◌, ◌⊎◌, ◌∷◌, if◌then◌else◌}
use Rattle.histories.specs.Words.{revoke, revoke_orphan, revoke_token, [], nat_lt, max, cond, Bool, true, false}
use Rattle.histories.specs.Words.{Option, Some, None, Ok, option_map, ⊤, option_map_or, refl, sym, ◌∙◌, ap, subst, inl}
use Rattle.histories.specs.Words.{inr, false≢true, false_from_ne_true, ltb-false, none-some, same_Some, Text, same}
use Rattle.histories.specs.Words.{same_self, same_true, Map, get, get-keep, get-put, get-without, Broker, Waiting}
use Rattle.histories.specs.Words.{waiting_ends, names_of, Answered, Done, nothing, token_identifier, wrapping_token}
use Rattle.histories.specs.Words.{◌>>=◌, some_or, ok_step, Sound, drop_waiting, token_text, are_new, Status, Words}
use Rattle.histories.specs.Words.{ok_inj, moved_waits, others_wait, act, Command, command_of, on_cubbyhole, on_issued}
use Rattle.histories.specs.Words.{on_lease, on_mount, on_policy, on_secret, on_token, on_wrapping, Does, SameUnless}
use Rattle.histories.specs.Words.{is_kept, forms, OperationsDoAsTold, Outcome, Wrapped, counted, kept_entry}
use Rattle.histories.specs.Words.{response_to, wrapped, permits, request_of, step, traits, may_change, FoundResponse}
use Rattle.histories.specs.Words.{act_on_wrappings, found, found_at, found_under, handed_out, rewrapped, Kind}
use Rattle.histories.specs.Words.{CubbyholeCommand, IssuedCommand, LeaseCommand, MountCommand, PolicyCommand}
use Rattle.histories.specs.Words.{SecretCommand, TokenCommand, WrappingCommand, Asking, clocked, Rewraps}
use Rattle.histories.specs.Words.{TakesTokenOut, Unwraps, AllKeptResponsesStay, IsOver, moved_by, IsGranted}
use Rattle.histories.specs.Words.{orphaning_by, revoked_by}
use Rattle.histories.proofs.KeptReplies.{acted, bad, command_is, found_under_meant, handed_same, next_waiting}
use Rattle.histories.proofs.KeptReplies.{served_200, unwrap_found, unwrap_hands_out}
use Rattle.histories.proofs.Order.{IsTurnedAway, IsTurnedDown, spent, some_ok, end_spent_waiting, first_new, own_new}
use Rattle.histories.proofs.Order.{spent_clock, spent_used, spent_waiting, wrapped_cases, acts_same, asked_at}
use Rattle.histories.proofs.Order.{means_at_clock, Served, cases, nothing_is_no_reply}

-- ---- which commands take a response away

-- whether it is a command on tokens, or on responses
abbrev may_take : Command → Bool
may_take (on_token command) = true
may_take (on_wrapping command) = true
may_take _ = false

-- no other changes which responses wait; one of each part is named, and the rest are tried one by one
never : (command : Command) → may_take command ≡ false → may_change (traits command).changes Kind.Waiting ≡ false
never (on_cubbyhole path CubbyholeCommand.Delete) other = refl
never (on_secret place SecretCommand.List) other = refl
never (on_policy name PolicyCommand.List) other = refl
never (on_mount name MountCommand.List) other = refl
never (on_lease prefix (LeaseCommand.LookUp id)) other = refl
never (on_issued place IssuedCommand.Issue) other = refl
never (on_token command) other = absurd (false≢true (sym other))
never (on_wrapping command) other = absurd (false≢true (sym other))
never _ other = refl

left_same : {X : Type 0} (v : Bool) (x y : X) → v ≡ false → SameUnless v x y → y ≡ x
left_same true x y is same_ = absurd (false≢true (sym is))
left_same false x y is same_ = same_

-- the status of what an operation answered
abbrev status_of : Answered → Status
status_of answered = (response_to answered).status

-- The operation took the response of t away: with a 204 that revoked t, or with a 200 that rewrapped or unwrapped it.
abbrev Takes : Broker → Option Text → Command → Done → Text → Type 0
Takes b who command d t =
    ((c : Text) × (who ≡ Some c) × (d.answered ≡ nothing)
    × ((revoked_by b c command ≡ Some t) ⊎ (orphaning_by command ≡ Some t)))
    ⊎ ((status_of d.answered ≡ Status.Success)
    × ((command ≡ on_wrapping (WrappingCommand.Rewrap (Some t)))
    ⊎ (command ≡ on_wrapping (WrappingCommand.Unwrap (Some t)))))

module _ (b : Broker) (who : Option Text) (words : Words) (t : Text) (w : Waiting) (waits : get b.waiting t ≡ Some w)
    (used : get b.used (token_identifier t) ≢ None) where
  abbrev Stays : Command → Done → Type 0
  Stays command d = (get d.next.waiting t ≡ Some w) ⊎ Takes b who command d t

  -- without that of u it waits still, or u is its wrapping token
  dropped : (next : Broker) (u : Text) → next.waiting ≡ b.waiting
      → (get (drop_waiting next u).waiting t ≡ Some w) ⊎ (u ≡ t)
  dropped next u is =
      elim (same t u) as (λ v. same t u ≡ v → (get (drop_waiting next u).waiting t ≡ Some w) ⊎ (u ≡ t)) [
        | true ↦ λ at. inr (sym (same_true t u at))
        | false ↦ λ apart. inl (get-without next.waiting u t ∙ ap (λ v. cond v None (get next.waiting t)) apart
            ∙ ap (λ (m : Map Waiting). get m t) is ∙ waits)
      ] refl

  revoked : (c u : Text) (command : Command) (d : Done) → who ≡ Some c → d ≡ revoke_token b u
      → revoked_by b c command ≡ Some u → Stays command d
  revoked c u command d is_c is names = elim (dropped (revoke b u) u refl) [
    | inl left ↦ inl (ap (λ (z : Done). get z.next.waiting t) is ∙ left)
    | inr at ↦ inr (inl (c, is_c, ap (λ (z : Done). z.answered) is, inl (names ∙ ap Some at)))
  ]

  token_stays : (command : TokenCommand) (d : Done) → Does b who (names_of words) (on_token command) d
      → Stays (on_token command) d
  token_stays (TokenCommand.Revoke u) d does = let f = does.fated in revoked f.0 f.1 (on_token (TokenCommand.Revoke u))
      d f.2 f.4 f.3
  token_stays (TokenCommand.RevokeAccessor u) d does =
      let f = does.fated in revoked f.0 f.1 (on_token (TokenCommand.RevokeAccessor u)) d f.2 f.4 f.3
  token_stays TokenCommand.RevokeSelf d does = let f = does.fated in revoked f.0 f.1 (on_token TokenCommand.RevokeSelf)
      d f.2 f.4 f.3
  token_stays (TokenCommand.RevokeOrphan u) d does =
      let f = does.fated in
      elim (dropped (revoke_orphan b u) u refl) [
        | inl left ↦ inl (ap (λ (z : Done). get z.next.waiting t) f.2 ∙ left)
        | inr at ↦ inr (inl (f.0, f.1, ap (λ (z : Done). z.answered) f.2, inr (ap Some at)))
      ]
  token_stays _ d does = inl (ap (λ (m : Map Waiting). get m t) does.keeps.waiting ∙ waits)

  -- what is found waits under the wrapping token that is meant
  found_there : (meant : Option Text) (f : FoundResponse) → found b meant ≡ Ok f
      → (u : Text) × (meant ≡ Some u) × (f.token ≡ u)
  found_there meant f e =
      let x = found_under_meant b meant f (some_ok _ (found_at b meant) e) in
      (x.0, x.2, ap (λ (z : FoundResponse). z.token) x.4)

  wrapping_stays : (command : WrappingCommand) (d : Done)
      → are_new b.used ((traits (on_wrapping command)).own (names_of words)) ≡ true
      → act_on_wrappings b (names_of words) command ≡ Ok d → Does b who (names_of words) (on_wrapping command) d
      → Stays (on_wrapping command) d
  wrapping_stays (WrappingCommand.Rewrap meant) d new e does =
      let names = names_of words in
      let u = token_text names.wrapping_token in
      let f = ok_step (found b meant) (λ f. Ok (rewrapped b names f)) d e in
      let x = found_there meant f.0 f.1 in
      elim (same t x.0) as (λ v. same t x.0 ≡ v → Stays (on_wrapping (WrappingCommand.Rewrap meant)) d) [
        | true ↦ λ at. inr (inr (
          ap (λ (z : Done). status_of z.answered) (sym (ok_inj f.2)),
          inl (ap (λ m. on_wrapping (WrappingCommand.Rewrap m)) (x.1 ∙ ap Some (sym (same_true t x.0 at)))),
        ))
        | false ↦ λ apart. inl (
            ap (λ (z : Done). get z.next.waiting t) (sym (ok_inj f.2))
            ∙ others_wait b (f.0).token u names.wrapping_accessor b.clock t
            (λ e. false≢true (sym apart ∙ ap (same t) (sym (e ∙ x.2)) ∙ same_self t))
            (λ e. used (ap (λ q. get b.used (token_identifier q)) e
            ∙ first_new b.used names.wrapping_token (names.wrapping_accessor ∷ []) new))
            ∙ waits)
      ] refl
  wrapping_stays (WrappingCommand.Unwrap meant) d new e does =
      let f = ok_step (found b meant) (λ f. Ok (handed_out b f)) d e in
      let x = found_there meant f.0 f.1 in
      elim (dropped b (f.0).token refl) [
        | inl left ↦ inl (ap (λ (z : Done). get z.next.waiting t) (sym (ok_inj f.2)) ∙ left)
        | inr at ↦ inr (inr (
          ap (λ (z : Done). status_of z.answered) (sym (ok_inj f.2)),
          inr (ap (λ m. on_wrapping (WrappingCommand.Unwrap m)) (x.1 ∙ ap Some (sym x.2 ∙ at))),
        ))
      ]
  wrapping_stays _ d new e does = inl (ap (λ (m : Map Waiting). get m t) does.keeps.waiting ∙ waits)

  -- it waits after the operation, or this took it away
  operation_stays : (command : Command) (d : Done) → are_new b.used ((traits command).own (names_of words)) ≡ true
      → act b who (names_of words) command ≡ Ok d → Does b who (names_of words) command d → Stays command d
  operation_stays (on_token command) d new e does = token_stays command d does
  operation_stays (on_wrapping command) d new e does =
      wrapping_stays command d new (sym (acts_same b who (names_of words) command) ∙ e) does
  operation_stays command d new e does =
      inl (ap (λ (m : Map Waiting). get m t)
      (left_same (may_change (traits command).changes Kind.Waiting) b.waiting d.next.waiting
      (never command refl) does.keeps.waiting) ∙ waits)

-- ---- a request

module _ (told : OperationsDoAsTold) (a : Asking) (sound : Sound forms None a.broker)
    (is : a.outcome ≡ step a.broker a.moment a.words a.ask) where
  abbrev now : Broker
  now = clocked a

  module _ (s : Served a) where
    abbrev start : Broker
    start = spent now s.caller

    abbrev v : Wrapped
    v = wrapped permits traits act start (request_of a.ask) (names_of a.words) s.command s.done

    means : command_of now.mounts a.ask ≡ Ok s.command
    means = means_at_clock a s.caller s.command s.means

    -- what is answered with 200 or 204 is answered so
    success : status_of (s.done).answered ≡ Status.Success → a.outcome.response.status ≡ Status.Success
    success code =
        ap (λ (x : Outcome). x.response.status) s.outcome
        ∙ elim (wrapped_cases permits traits act start (request_of a.ask) (names_of a.words) s.command s.done) [
          | inl plain ↦ ap (λ (x : Wrapped). status_of x.done.answered) plain ∙ code
          | inr (r, made, wraps_, answered, is_wrapped) ↦ ap (λ (x : Wrapped). status_of x.done.answered) is_wrapped
        ]

    granted : (c : Text) → s.caller ≡ Some c → (s.done).answered ≡ nothing → IsGranted a c s.command
    granted c is_c empty = elim s.asked [
      | inl open_ ↦ absurd (none-some _ (sym open_.1 ∙ is_c))
      | inr (u, closed, is_token, is_u, no_wait, here) ↦ record {
        caller = is_token ∙ sym is_u ∙ is_c;
        closed = closed;
        means = means;
        response = ap (λ (x : Outcome). x.response) s.outcome
            ∙ elim (wrapped_cases permits traits act start (request_of a.ask) (names_of a.words) s.command s.done) [
              | inl plain ↦ ap (λ (x : Wrapped). response_to x.done.answered) plain ∙ ap response_to empty
              | inr (r, made, wraps_, answered, is_wrapped) ↦ absurd (nothing_is_no_reply empty answered)
            ];
      }
    ]

  module _ (t : Text) (w : Waiting) (was : get a.broker.waiting t ≡ Some w)
      (there : get (clocked a).waiting t ≡ Some w) where
    abbrev Stayed : Type 0
    Stayed = (get a.outcome.next.waiting t ≡ Some w) ⊎ (TakesTokenOut a t ⊎ Unwraps a t w.origin)

    waited : get now.waiting t ≢ None
    waited none = none-some _ (sym none ∙ there)

    used_before : get a.broker.used (token_identifier t) ≢ None
    used_before =
        sound.identifiers.all_used (wrapping_token t) (token_identifier t)
        (ap (option_map (λ (z : Waiting). token_identifier t)) was)

    turned_away : IsTurnedAway now (request_of a.ask) a.outcome → Stayed
    turned_away s = elim s.removed [
      | inl same_ ↦ inl (ap (λ (x : Outcome). get x.next.waiting t) s.outcome
          ∙ ap (λ (z : Broker). get z.waiting t) same_ ∙ there)
      | inr (u, closed, is_token, waits, next) ↦
          elim (same t u) as (λ v. same t u ≡ v → Stayed) [
            | true ↦ λ at. inr (inl (record {
              waited = waited;
              how = inl (record { token = is_token ∙ ap Some (sym (same_true t u at)); closed = closed });
            }))
            | false ↦ λ apart. inl (ap (λ (x : Outcome). get x.next.waiting t) s.outcome
                ∙ ap (λ (z : Broker). get z.waiting t) next
                ∙ get-without now.waiting u t ∙ ap (λ v. cond v None (get now.waiting t)) apart ∙ there)
          ] refl
    ]

    turned_down : IsTurnedDown now a.outcome → Stayed
    turned_down s =
        inl (ap (λ (x : Outcome). get x.next.waiting t) s.outcome
        ∙ ap (λ (m : Map Waiting). get m t)
        (end_spent_waiting (spent now s.caller) s.caller ∙ spent_waiting now s.caller) ∙ there)

    module _ (s : Served a) where
      start_used : (start s).used ≡ a.broker.used
      start_used = spent_used now s.caller

      -- a wrapping token that the request may make is another
      apart : get (start s).used (names_of a.words).wrapping_token ≡ None
          → same t (token_text (names_of a.words).wrapping_token) ≡ false
      apart fresh = false_from_ne_true (same t (token_text (names_of a.words).wrapping_token)) (λ e. used_before
          (ap (λ q. get a.broker.used (token_identifier q))
          (same_true t (token_text (names_of a.words).wrapping_token) e)
          ∙ ap (λ (m : Map ⊤). get m (names_of a.words).wrapping_token) (sym start_used) ∙ fresh))

      kept_too : get (v s).done.next.waiting t ≡ get (s.done).next.waiting t
      kept_too =
          elim (wrapped_cases permits traits act (start s) (request_of a.ask) (names_of a.words) s.command s.done) [
            | inl plain ↦ ap (λ (x : Wrapped). get x.done.next.waiting t) plain
            | inr (r, made, wraps_, answered, is_wrapped) ↦
                let names = names_of a.words in
                let own = (traits s.command).own names in
                let new : are_new (start s).used (names.wrapping_token ∷ names.wrapping_accessor ∷ own) ≡ true =
                ap (λ x. are_new (start s).used (if x then names.wrapping_token ∷ names.wrapping_accessor ∷ own
                else own))
                (sym wraps_) ∙ s.new in
                let entry = kept_entry (start s) a.ask.path a.ask.wrap_ttl names r in
                ap (λ (x : Wrapped). get x.done.next.waiting t) is_wrapped
                ∙ get-put (s.done).next.waiting (token_text names.wrapping_token) entry t
                ∙ ap (λ x. cond x (Some entry) (get (s.done).next.waiting t))
                (apart (first_new (start s).used names.wrapping_token (names.wrapping_accessor ∷ own) new))
          ]

      next_is : get a.outcome.next.waiting t ≡ get (s.done).next.waiting t
      next_is =
          ap (λ (x : Outcome). get x.next.waiting t) s.outcome
          ∙ ap (λ (m : Map Waiting). get m t) (end_spent_waiting (counted (v s).done) s.caller) ∙ kept_too

      taken_by : Takes (start s) s.caller s.command s.done t → TakesTokenOut a t ⊎ Unwraps a t w.origin
      taken_by (inl (c, is_c, empty, inl names)) =
          inl (record {
            waited = waited;
            how = inr (inl (
              c,
              record {
                command = s.command;
                granted = granted s c is_c empty;
                text = ap (λ who. revoked_by (spent now who) c s.command) (sym is_c) ∙ names;
              },
            ));
          })
      taken_by (inl (c, is_c, empty, inr names)) =
          inl (record {
            waited = waited;
            how = inr (inr (inl (c, record { command = s.command; granted = granted s c is_c empty; text = names })));
          })
      taken_by (inr (code, inl rewraps)) =
          inl (record {
            waited = waited;
            how = inr (inr (inr (record { means = means s ∙ ap Ok rewraps; success = success s code })));
          })
      taken_by (inr (code, inr unwraps)) =
          inr (record {
            means = means s ∙ ap Ok unwraps;
            success = success s code;
            entry = w;
            waited = there;
            origin = refl;
          })

      left_or_taken : (get (s.done).next.waiting t ≡ Some w) ⊎ Takes (start s) s.caller s.command s.done t
      left_or_taken =
          operation_stays (start s) s.caller a.words t w
          (ap (λ (m : Map Waiting). get m t) (spent_waiting now s.caller) ∙ there)
          (λ none. used_before (ap (λ (m : Map ⊤). get m (token_identifier t)) (sym start_used) ∙ none))
          s.command s.done
          (own_new permits traits act (start s).used (request_of a.ask) (names_of a.words) s.command s.new) s.acted
          (told (start s) s.caller a.words s.command s.done s.acted)

      by_operation : Stayed
      by_operation = elim left_or_taken [
        | inl left ↦ inl (next_is ∙ left)
        | inr takes ↦ inr (taken_by takes)
      ]

    by_cases : Stayed
    by_cases = elim (cases a is) [
      | inl s ↦ turned_away s
      | inr r ↦ elim r [ inl s ↦ turned_down s | inr s ↦ by_operation s ]
    ]

  -- at the clock its time is over, or it waits
  stays : (t : Text) (w : Waiting) → get a.broker.waiting t ≡ Some w
      → (get a.outcome.next.waiting t ≡ Some w) ⊎ (IsOver a w ⊎ (TakesTokenOut a t ⊎ Unwraps a t w.origin))
  stays t w was =
      let clock = max a.broker.clock a.moment in
      let passes : Text → Bool =
      λ u. option_map_or (λ x. nat_lt clock (waiting_ends x)) (get a.broker.waiting u) false in
      elim (nat_lt clock (waiting_ends w)) as (λ x. nat_lt clock (waiting_ends w) ≡ x
      → (get a.outcome.next.waiting t ≡ Some w) ⊎ (IsOver a w ⊎ (TakesTokenOut a t ⊎ Unwraps a t w.origin))) [
        | false ↦ λ over. inr (inl (ltb-false clock (waiting_ends w) over))
        | true ↦ λ later.
            let passes_it : passes t ≡ true =
            ap (λ (o : Option Waiting). option_map_or (λ x. nat_lt clock (waiting_ends x)) o false) was ∙ later in
            let there : get now.waiting t ≡ Some w =
            get-keep passes a.broker.waiting t ∙ ap (λ x. cond x (get a.broker.waiting t) None) passes_it ∙ was in
            elim (by_cases t w was there) [ inl left ↦ inl left | inr taken ↦ inr (inr taken) ]
      ] refl

  -- a rewrap moves it
  moves : (t : Text) (w : Waiting) → Rewraps a t → get now.waiting t ≡ Some w
      → get a.outcome.next.waiting (token_text (names_of a.words).wrapping_token) ≡ Some (moved_by a w)
  moves t w r there =
      let rewrap = WrappingCommand.Rewrap (Some t) in
      let s = served_200 a is r.success rewrap r.means in
      let start = spent now s.caller in
      let names = names_of a.words in
      let u = token_text names.wrapping_token in
      let here : get start.waiting t ≡ Some w =
      ap (λ (m : Map Waiting). get m t) (spent_waiting now s.caller) ∙ there in
      let done : rewrapped start names (found_under t w) ≡ s.done =
      ok_inj (ap (λ x. some_or bad (option_map (found_under t) x) >>= (λ f. Ok (rewrapped start names f))) (sym here)
      ∙ acted a is r.success rewrap r.means) in
      ap (λ (m : Map Waiting). get m u) (next_waiting a s (command_is a is r.success rewrap r.means))
      ∙ ap (λ (d : Done). get d.next.waiting u) (sym done)
      ∙ moved_waits start t u names.wrapping_accessor start.clock w here
      ∙ ap (λ n. Some (record w { accessor = names.wrapping_accessor; created = n })) (spent_clock now s.caller)

  -- only an unwrap hands out
  is_unwrap : (b : Broker) (command : WrappingCommand) (d : Done) (o : Text)
      → act_on_wrappings b (names_of a.words) command ≡ Ok d
      → d.handed ≡ Some o → (meant : Option Text) × (command ≡ WrappingCommand.Unwrap meant)
  is_unwrap b (WrappingCommand.Wrap text) d o e handed = absurd
      (none-some _ (ap (λ (z : Done). z.handed) (ok_inj e) ∙ handed))
  is_unwrap b (WrappingCommand.LookUp meant) d o e handed =
      absurd (none-some _ (ap (λ (z : Done). z.handed) (ok_inj (ok_step (found b meant) _ d e).2) ∙ handed))
  is_unwrap b (WrappingCommand.Rewrap meant) d o e handed =
      absurd (none-some _ (ap (λ (z : Done). z.handed) (ok_inj (ok_step (found b meant) _ d e).2) ∙ handed))
  is_unwrap b (WrappingCommand.Unwrap meant) d o e handed = (meant, refl)

  -- whose reply is none to wrap
  of_responses : (command : Command) → (traits command).may_wrap ≡ false
      → (k : WrappingCommand) × (command ≡ on_wrapping k)
  of_responses (on_wrapping k) never_ = (k, refl)
  of_responses _ never_ = absurd (false≢true (sym never_))

  module _ (o : Text) (handed : a.outcome.handed ≡ Some o) where
    served_out : Served a → (t : Text) × Unwraps a t o
    served_out s =
        let names = names_of a.words in
        let gives : (s.done).handed ≡ Some o = sym (handed_same a s) ∙ handed in
        let does = told (start s) s.caller a.words s.command s.done s.acted in
        let out = does.hands_out o gives in
        let plain : (traits s.command).may_wrap ≡ false =
        elim ((traits s.command).may_wrap) as (λ x. (traits s.command).may_wrap ≡ x → x ≡ false) [
          | true ↦ λ may. absurd (false≢true (sym (does.not_kept may) ∙ ap is_kept out.text))
          | false ↦ λ _. refl
        ] refl in
        let k = of_responses s.command plain in
        let ran : act_on_wrappings (start s) names k.0 ≡ Ok s.done =
        sym (acts_same (start s) s.caller names k.0) ∙ ap (λ (z : Command). act (start s) s.caller names z) (sym k.1)
        ∙ s.acted in
        let m = is_unwrap (start s) k.0 s.done o ran gives in
        let u =
        unwrap_found a m.0 is (means s ∙ ap Ok (k.1 ∙ ap on_wrapping m.1)) (success s (ap status_of out.text)) in
        (u.0, subst (Unwraps a u.0) (same_Some _ _ (sym (unwrap_hands_out a u.0 u.1 is u.3) ∙ handed)) u.3)

    hands_out : (t : Text) × Unwraps a t o
    hands_out = elim (cases a is) [
      | inl s ↦ absurd (none-some _ (sym (ap (λ (x : Outcome). x.handed) s.outcome) ∙ handed))
      | inr r ↦ elim r [
        | inl s ↦ absurd (none-some _ (sym (ap (λ (x : Outcome). x.handed) s.outcome) ∙ handed))
        | inr s ↦ served_out s
      ]
    ]

-- ---- the law

pub kept_responses_stay : OperationsDoAsTold → AllKeptResponsesStay
kept_responses_stay told b history h = record {
  stays = λ i a t w at was. let asked = asked_at b history i a h at in stays told a asked.sound asked.outcome t w was;
  moves = λ i a t w at r there. moves told a (asked_at b history i a h at).sound
      (asked_at b history i a h at).outcome t w r there;
  hands_out = λ i a o at handed. hands_out told a (asked_at b history i a h at).sound
      (asked_at b history i a h at).outcome o handed;
}
