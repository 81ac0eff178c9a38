-- What a request keeps, whatever the operations are, as long as each is proper.
use Rattle.std.proofs.Common.{◌≡◌, ◌≢◌, ◌⊎◌, ◌||◌, ◌∷◌, if◌then◌else◌}
use Rattle.broker_model.specs.Words.{ℕ, max, List, [], Bool, true, false, not, cond, nat_lt, Option, Some, None}
use Rattle.broker_model.specs.Words.{Result, Ok, Err, is_none, option_map, ⊤, list_any, option_map_or, refl, sym, ◌∙◌}
use Rattle.broker_model.specs.Words.{ap, subst, inl, inr, false≢true, and_parts, ltb-true, and_from, none-some}
use Rattle.broker_model.specs.Words.{same_Some, Text, same, Map, get, without, get-put, get-put_self, get-without_self}
use Rattle.broker_model.specs.Words.{without_is, put_is, same_self, token_text, Broker, Waiting, at_moment, revoke}
use Rattle.broker_model.specs.Words.{waiting_ends, Evolves, WaitedBefore, IsNew, evolves_trans, Names, names_of}
use Rattle.broker_model.specs.Words.{is_nothing, Answered, nothing, reply, kept_text, missing, Done, IsUsed}
use Rattle.broker_model.specs.Words.{token_identifier, wrapping_token, at_moment_evolves, kept_get, SoundIdentifiers}
use Rattle.broker_model.specs.Words.{SoundWaiting, end_spent, is_spent, evolves_self, spend_evolves, end_spent_evolves}
use Rattle.broker_model.specs.Words.{drop_evolves, are_new, use_up, Verb, Reply, Refusal, rest_new, store_evolves}
use Rattle.broker_model.specs.Words.{with_waiting, Outcome, Traits, Wrapped, denied, finish, kept_entry, needed}
use Rattle.broker_model.specs.Words.{ordered, response_to, unwrapped, wrap, wrap_200, wrap_info, wrapped, wraps}
use Rattle.broker_model.specs.Words.{IsProper, reply_text, wrap_reply, Request, ok}
use Rattle.histories.specs.Words.{Asking, clocked, KeepsReply, first_entry}
use Rattle.histories.proofs.Keeping.{HandedOut, IsBorn, Keeps}
use Rattle.histories.proofs.Lasting.{waited_before}
use Rattle.histories.proofs.OrderCases.{IsServed, IsTurnedAway, IsTurnedDown, order_cases, spent}

-- ---- identifiers

pub first_new : (used : Map ⊤) (i : Text) (is : List Text) → are_new used (i ∷ is) ≡ true → get used i ≡ None
first_new used i is h = is_nothing (get used i) (and_parts _ _ h).0

-- the first two of new identifiers are new without the others
fewer_new : (used : Map ⊤) (i j : Text) (own : List Text) → are_new used (i ∷ j ∷ own) ≡ true
    → are_new used (i ∷ j ∷ []) ≡ true
fewer_new used i j own h =
    let p = and_parts (is_none (get used i)) _ h in
    let q = and_parts (not (list_any (same i) (j ∷ own))) _ p.1 in
    let r = and_parts (is_none (get used j)) _ q.1 in
    let apart : not (same i j || false) ≡ true =
    elim (same i j) as (λ b. not (b || list_any (same i) own) ≡ true → not (b || false) ≡ true) [
      | true ↦ λ e. e
      | false ↦ λ _. refl
    ] q.0 in
    and_from _ _ p.0 (and_from _ _ apart (and_from _ _ r.0 refl))

-- more that is used lets a broker evolve
pub used_more : (m : Map ⊤) (is : List Text) (i : Text) → get m i ≢ None → get (use_up m is) i ≢ None
used_more m [] i used = used
used_more m (j ∷ js) i used = λ none.
    elim (same i j) as (λ v. cond v (Some (tt {0})) (get (use_up m js) i) ≡ None → ⊥) [
      | true ↦ λ e. none-some _ (sym e)
      | false ↦ λ e. used_more m js i used e
    ] (sym (get-put (use_up m js) j (tt {0}) i) ∙ none)

-- a broker with more identifiers used
abbrev with_used : Broker → List Text → Broker
with_used b is = record b { used = use_up b.used is }

used_evolves : (b : Broker) (is : List Text) → Evolves b (with_used b is)
used_evolves b is = record {
  used = λ i used. used_more b.used is i used;
  tokens = λ t x e. inl (λ none. none-some _ (sym none ∙ e));
  leases = λ t lease_id l e. inl (l, e, refl);
  wrapping_tokens = λ t w e. inl (λ none. none-some _ (sym none ∙ e));
  waiting = λ t w e. inl (t, w, e, refl, refl);
}

-- ---- the end of a caller that has spent its last use

-- what revocation leaves, that end leaves
pub end_spent_same : {X : Type 0} (f : Broker → X) → ((b : Broker) (t : Text) → f (revoke b t) ≡ f b)
    → (b : Broker) (who : Option Text)
    → f (end_spent b who) ≡ f b
end_spent_same f keeps b None = refl
end_spent_same f keeps b (Some c) =
    elim (option_map_or is_spent (get b.tokens c) false) as (λ v. f (if v then revoke b c else b) ≡ f b) [
      | true ↦ keeps b c
      | false ↦ refl
    ]

pub end_spent_used : (b : Broker) (who : Option Text) → (end_spent b who).used ≡ b.used
end_spent_used b who = end_spent_same (λ (c : Broker). c.used) (λ _ _. refl) b who

pub end_spent_waiting : (b : Broker) (who : Option Text) → (end_spent b who).waiting ≡ b.waiting
end_spent_waiting b who = end_spent_same (λ (c : Broker). c.waiting) (λ _ _. refl) b who

pub spent_used : (b : Broker) (who : Option Text) → (spent b who).used ≡ b.used
spent_used b None = refl
spent_used b (Some c) = refl

pub spent_clock : (b : Broker) (who : Option Text) → (spent b who).clock ≡ b.clock
spent_clock b None = refl
spent_clock b (Some c) = refl

pub spent_waiting : (b : Broker) (who : Option Text) → (spent b who).waiting ≡ b.waiting
spent_waiting b None = refl
spent_waiting b (Some c) = refl

spent_evolves : (b : Broker) (who : Option Text) → Evolves b (spent b who)
spent_evolves b None = evolves_self b
spent_evolves b (Some c) = spend_evolves b c

module _ {Command : Type 0} (permits : Broker → Option Text → Verb → Text → Bool) (traits : Command → Traits)
    (act : Broker → Option Text → Names → Command → Result Done Refusal) where
  -- each operation is proper, with these names
  abbrev pub AreProper : Names → Type 0
  AreProper names =
      (b : Broker) (caller : Option Text) (command : Command) (d : Done)
      → are_new b.used ((traits command).own names) ≡ true → act b caller names command ≡ Ok d
      → IsProper b ((traits command).own names) d

  -- ---- wrapping

  pub own_new : (used : Map ⊤) (q : Request Command) (names : Names) (command : Command)
      → are_new used (needed permits traits act q names command) ≡ true
      → are_new used ((traits command).own names) ≡ true
  own_new used q names command =
      elim (wraps permits traits act q command) as
      (λ v. are_new used (if v then names.wrapping_token ∷ names.wrapping_accessor ∷ (traits command).own names
      else (traits command).own names) ≡ true → are_new used ((traits command).own names) ≡ true) [
        | true ↦ λ h. rest_new used names.wrapping_accessor ((traits command).own names)
            (rest_new used names.wrapping_token (names.wrapping_accessor ∷ (traits command).own names) h)
        | false ↦ λ h. h
      ]

  -- the operation's reply was wrapped
  abbrev pub IsWrapped : Broker → Request Command → Names → Command → Done → Wrapped → Type 0
  IsWrapped b q names command d v =
      (r : Reply) × (made : Option Text) × (wraps permits traits act q command ≡ true) × (d.answered ≡ reply r made)
      × (v ≡ wrap b q.path q.wrap_ttl names d r made)

  by_answer : (b : Broker) (q : Request Command) (names : Names) (command : Command) (d : Done) (answered : Answered)
      → d.answered ≡ answered
      → wraps permits traits act q command ≡ true
      → (wrap_200 b q.path q.wrap_ttl names d answered ≡ unwrapped d)
      ⊎ IsWrapped b q names command d (wrap_200 b q.path q.wrap_ttl names d answered)
  by_answer b q names command d nothing is h = inl refl
  by_answer b q names command d (reply r made) is h = inr (r, made, h, is, refl)
  by_answer b q names command d (kept_text t) is h = inl refl
  by_answer b q names command d (missing r) is h = inl refl

  pub wrapped_cases : (b : Broker) (q : Request Command) (names : Names) (command : Command) (d : Done)
      → (wrapped permits traits act b q names command d ≡ unwrapped d)
      ⊎ IsWrapped b q names command d (wrapped permits traits act b q names command d)
  wrapped_cases b q names command d =
      elim (wraps permits traits act q command) as
      (λ v. wraps permits traits act q command ≡ v
      → ((if v then wrap_200 b q.path q.wrap_ttl names d d.answered else unwrapped d) ≡ unwrapped d)
      ⊎ IsWrapped b q names command d (if v then wrap_200 b q.path q.wrap_ttl names d d.answered else unwrapped d)) [
        | true ↦ λ h. by_answer b q names command d d.answered refl h
        | false ↦ λ _. inl refl
      ] refl

  -- ---- what serving leaves

  -- what a wrapped or unwrapped answer keeps
  pub record LeftBy (b : Broker) (q : Request Command) (names : Names) (command : Command) (d : Done)
      (v : Wrapped) : Type 0 where
    pub new : are_new b.used v.done.taken ≡ true
    pub used : v.done.next.used ≡ b.used
    pub evolves : Evolves b v.done.next
    pub handed : v.done.handed ≡ d.handed
    pub born : (o : Text) → v.born ≡ Some o → list_any (same o) v.done.taken ≡ true
    pub kept : (t : Text) → d.answered ≡ kept_text t → v ≡ unwrapped d
    pub waits : (t : Text) (w : Waiting) → get v.done.next.waiting t ≡ Some w
        → WaitedBefore b w ⊎ ((x : IsWrapped b q names command d v) × (w ≡ kept_entry b q.path q.wrap_ttl names x.0))

  taken_new : (used : Map ⊤) (own taken : List Text) → (taken ≡ []) ⊎ (taken ≡ own) → are_new used own ≡ true
      → are_new used taken ≡ true
  taken_new used own taken (inl e) h = ap (are_new used) e
  taken_new used own taken (inr e) h = ap (are_new used) e ∙ h

  module _ (b : Broker) (q : Request Command) (names : Names) (command : Command) (d : Done)
      (new : are_new b.used (needed permits traits act q names command) ≡ true)
      (proper : IsProper b ((traits command).own names) d) where
    left_unwrapped : (v : Wrapped) → v ≡ unwrapped d → LeftBy b q names command d v
    left_unwrapped v is = subst (LeftBy b q names command d) (sym is) (record {
      new = taken_new b.used ((traits command).own names) d.taken proper.gives_own (own_new b.used q names command new);
      used = proper.used;
      evolves = proper.evolves;
      handed = refl;
      born = λ o e. absurd (none-some _ e);
      kept = λ t e. refl;
      waits = λ t w e. inl (proper.none_born t w e);
    })

    wrap_taken : (wraps permits traits act q command ≡ true)
        → are_new b.used (names.wrapping_token ∷ names.wrapping_accessor ∷ d.taken) ≡ true
    wrap_taken h =
        let all_new : are_new b.used (names.wrapping_token ∷ names.wrapping_accessor ∷ (traits command).own names)
        ≡ true =
        ap (λ v. are_new b.used (if v then names.wrapping_token ∷ names.wrapping_accessor ∷ (traits command).own names
        else (traits command).own names)) (sym h) ∙ new in
        elim proper.gives_own [
          | inl e ↦ ap (λ is. are_new b.used (names.wrapping_token ∷ names.wrapping_accessor ∷ is)) e
              ∙ fewer_new b.used names.wrapping_token names.wrapping_accessor ((traits command).own names) all_new
          | inr e ↦ ap (λ is. are_new b.used (names.wrapping_token ∷ names.wrapping_accessor ∷ is)) e ∙ all_new
        ]

    left_wrapped : (v : Wrapped) → IsWrapped b q names command d v → LeftBy b q names command d v
    left_wrapped v (r, made, h, answered, is) =
        let entry = kept_entry b q.path q.wrap_ttl names r in
        let taken = wrap_taken h in
        let fresh : IsNew d.next names.wrapping_token =
        ap (λ (m : Map ⊤). get m names.wrapping_token) proper.used
        ∙ first_new b.used names.wrapping_token (names.wrapping_accessor ∷ d.taken) taken in
        subst (LeftBy b q names command d) (sym is) (record {
          new = taken;
          used = proper.used;
          evolves = evolves_trans b d.next (with_waiting d.next (token_text names.wrapping_token) entry) proper.evolves
              (store_evolves d.next (token_text names.wrapping_token) entry fresh refl);
          handed = refl;
          born = λ o e. ap (λ u. same u names.wrapping_token || list_any (same u) (names.wrapping_accessor ∷ d.taken))
              (sym (same_Some _ _ e))
              ∙ ap (λ u. u || list_any (same names.wrapping_token) (names.wrapping_accessor ∷ d.taken))
              (same_self names.wrapping_token);
          kept = λ t e. absurd (not_both t (sym answered ∙ e));
          waits = λ t w e. put_is d.next.waiting (token_text names.wrapping_token) entry t w _ e
              (λ at here. inr ((r, made, h, answered, refl), here))
              (λ old. inl (proper.none_born t w old));
        })
      where
        not_both : (t : Text) → reply r made ≡ kept_text t → ⊥
        not_both t e = cc

    pub left : LeftBy b q names command d (wrapped permits traits act b q names command d)
    left = elim (wrapped_cases b q names command d) [
      | inl plain ↦ left_unwrapped (wrapped permits traits act b q names command d) plain
      | inr wrapped_ ↦ left_wrapped (wrapped permits traits act b q names command d) wrapped_
    ]

-- ---- what a request keeps

-- what waits at a clock waited before it
was_waiting : (b : Broker) (moment : ℕ) (w : Waiting) → WaitedBefore (at_moment b moment) w → WaitedBefore b w
was_waiting b moment w (t, v, is, origin, text) = (
  t,
  v,
  (kept_get (λ u. option_map_or (λ y. nat_lt (max b.clock moment) (waiting_ends y)) (get b.waiting u) false)
      b.waiting t v is).0,
  origin,
  text,
)

-- what waited where the waiting responses are the same
same_waited : (b c : Broker) (w : Waiting) → c.waiting ≡ b.waiting → WaitedBefore c w → WaitedBefore b w
same_waited b c w e (t, v, is, origin, text) = (t, v, ap (λ (m : Map Waiting). get m t) (sym e) ∙ is, origin, text)

module _ {Command : Type 0} (permits : Broker → Option Text → Verb → Text → Bool) (traits : Command → Traits)
    (act : Broker → Option Text → Names → Command → Result Done Refusal) (body : Asking → Text) (a : Asking)
    (q : Request Command) (same_path : q.path ≡ a.ask.path) (same_ttl : q.wrap_ttl ≡ a.ask.wrap_ttl)
    (proper : AreProper permits traits act (names_of a.words))
    (ids : SoundIdentifiers a.broker) (waiting : SoundWaiting a.broker.waiting) where
  abbrev now : Broker
  now = clocked a

  abbrev names : Names
  names = names_of a.words

  -- the body is the text of what the operation replied, and of a token that it made it tells the accessor alone
  abbrev pub TellsBody : Type 0
  TellsBody =
      (s : IsServed permits traits act now q names a.outcome) (r : Reply) (made : Option Text)
      → s.done.answered ≡ reply r made
      → (reply_text r ≡ body a) × ((made ≡ None) ⊎ (made ≡ Some names.accessor))

  -- nothing was given out, and nothing waits that did not before
  quiet : (next : Broker) (o : Outcome) → a.outcome ≡ o → o.next ≡ next → o.taken ≡ [] → o.handed ≡ None
      → o.born ≡ None → next.used ≡ a.broker.used
      → Evolves now next → ((t : Text) (w : Waiting) → get next.waiting t ≡ Some w → WaitedBefore now w) → Keeps body a
  quiet next o is next_is none_taken none_handed none_born used evolves waits =
      let at : a.outcome.next ≡ next = ap (λ (x : Outcome). x.next) is ∙ next_is in
      let nothing_taken : a.outcome.taken ≡ [] = ap (λ (x : Outcome). x.taken) is ∙ none_taken in
      record {
        evolves = subst (Evolves now) (sym at) evolves;
        taken_are_new = ap (are_new a.broker.used) nothing_taken;
        taken_are_used =
            ap (λ (c : Broker). c.used) at ∙ used ∙ ap (use_up a.broker.used) (sym nothing_taken);
        hands_out = λ origin e. absurd (none-some _ (sym (ap (λ (x : Outcome). x.handed) is ∙ none_handed) ∙ e));
        born_is_taken = λ origin e. absurd (none-some _ (sym (ap (λ (x : Outcome). x.born) is ∙ none_born) ∙ e));
        waits = λ t w e. inl (was_waiting a.broker a.moment w
            (waits t w (ap (λ (c : Broker). get c.waiting t) (sym at) ∙ e)));
      }

  turned_away : IsTurnedAway now q a.outcome → Keeps body a
  turned_away s = elim s.removed [
    | inl same_now ↦
        quiet s.next (denied s.next) s.outcome refl refl refl refl (ap (λ (c : Broker). c.used) same_now)
        (subst (Evolves now) (sym same_now) (evolves_self now))
        (λ t w e. (t, w, ap (λ (c : Broker). get c.waiting t) (sym same_now) ∙ e, refl, refl))
    | inr (u, closed, token, waits, dropped) ↦
        quiet s.next (denied s.next) s.outcome refl refl refl refl (ap (λ (c : Broker). c.used) dropped)
        (subst (Evolves now) (sym dropped) (drop_evolves now u))
        (λ t w e. (
          t,
          w,
          (without_is now.waiting u t w (ap (λ (c : Broker). get c.waiting t) (sym dropped) ∙ e)).1,
          refl,
          refl,
        ))
  ]

  turned_down : IsTurnedDown now a.outcome → Keeps body a
  turned_down s =
      let start = spent now s.caller in
      let next = end_spent start s.caller in
      let same_waiting : next.waiting ≡ now.waiting = end_spent_waiting start s.caller ∙ spent_waiting now s.caller in
      quiet next (finish start s.caller (Err s.why)) s.outcome refl refl refl refl
      (end_spent_used start s.caller ∙ spent_used now s.caller)
      (evolves_trans now start next (spent_evolves now s.caller) (end_spent_evolves start s.caller))
      (λ t w e. (t, w, ap (λ (m : Map Waiting). get m t) (sym same_waiting) ∙ e, refl, refl))

  module _ (tells : TellsBody) (s : IsServed permits traits act now q names a.outcome) where
    abbrev start : Broker
    start = spent now s.caller

    abbrev v : Wrapped
    v = wrapped permits traits act start q names s.command s.done

    abbrev finished : Outcome
    finished = finish start s.caller (Ok v)

    is_proper : IsProper start ((traits s.command).own names) s.done
    is_proper = proper start s.caller s.command s.done (own_new permits traits act start.used q names s.command s.new)
        s.acted

    what_is_left : LeftBy permits traits act start q names s.command s.done v
    what_is_left = left permits traits act start q names s.command s.done s.new is_proper

    next_is : a.outcome.next ≡ end_spent (with_used v.done.next v.done.taken) s.caller
    next_is = ap (λ (x : Outcome). x.next) s.outcome

    taken_is : a.outcome.taken ≡ v.done.taken
    taken_is = ap (λ (x : Outcome). x.taken) s.outcome

    served_evolves : Evolves now a.outcome.next
    served_evolves =
        let counted = with_used v.done.next v.done.taken in
        subst (Evolves now) (sym next_is)
        (evolves_trans now start (end_spent counted s.caller) (spent_evolves now s.caller)
        (evolves_trans start v.done.next (end_spent counted s.caller) what_is_left.evolves
        (evolves_trans v.done.next counted (end_spent counted s.caller) (used_evolves v.done.next v.done.taken)
        (end_spent_evolves counted s.caller))))

    waiting_is : a.outcome.next.waiting ≡ v.done.next.waiting
    waiting_is = ap (λ (c : Broker). c.waiting) next_is
        ∙ end_spent_waiting (with_used v.done.next v.done.taken) s.caller

    from_broker : Evolves a.broker a.outcome.next
    from_broker = evolves_trans a.broker now a.outcome.next (at_moment_evolves a.broker a.moment) served_evolves

    served_hands_out : (o : Text) → a.outcome.handed ≡ Some o → HandedOut a o
    served_hands_out o e =
        let h = is_proper.hands_out o (sym what_is_left.handed ∙ ap (λ (x : Outcome). x.handed) (sym s.outcome) ∙ e) in
        let kept : v ≡ unwrapped s.done = what_is_left.kept h.entry.reply h.text in
        let waited : get now.waiting h.token ≡ Some h.entry =
        ap (λ (m : Map Waiting). get m h.token) (sym (spent_waiting now s.caller)) ∙ h.waited in
        let waited_then = (waited_before a h.token h.entry waited).0 in
        let left_waiting : a.outcome.next.waiting ≡ without now.waiting h.token =
        waiting_is ∙ ap (λ (x : Wrapped). x.done.next.waiting) kept ∙ h.waits
        ∙ ap (λ (m : Map Waiting). without m h.token) (spent_waiting now s.caller) in
        record {
          token = h.token;
          entry = h.entry;
          waited = waited;
          origin = h.origin;
          response = ap (λ (x : Outcome). x.response) s.outcome ∙ ap (λ (x : Wrapped). response_to x.done.answered) kept
              ∙ ap response_to h.text;
          gone = record {
            used = from_broker.used o (subst (IsUsed a.broker) h.origin (ids.origins_used h.token h.entry waited_then));
            gone = λ t w is same_origin.
                let other =
                without_is now.waiting h.token t w (ap (λ (m : Map Waiting). get m t) (sym left_waiting) ∙ is) in
                let one : t ≡ h.token =
                waiting.one_origin t h.token w h.entry (waited_before a t w other.1).0 waited_then
                (same_origin ∙ sym h.origin) in
                false≢true (sym other.0 ∙ ap (same t) (sym one) ∙ same_self t);
          };
          out = record {
            used = from_broker.used (token_identifier h.token)
                (ids.all_used (wrapping_token h.token) (token_identifier h.token)
                (ap (option_map (λ _. token_identifier h.token)) waited_then));
            gone = ap (λ (m : Map Waiting). get m h.token) left_waiting ∙ get-without_self now.waiting h.token;
          };
        }

    -- the response that was kept has the ask's path and wrap TTL
    entry_is : (r : Reply) (made : Option Text) → s.done.answered ≡ reply r made
        → kept_entry start q.path q.wrap_ttl names r ≡ first_entry a (body a)
    entry_is r made answered =
        let clock = spent_clock now s.caller in
        let text = (tells s r made answered).0 in
        λ i. record {
          accessor = names.wrapping_accessor;
          created = clock i;
          ttl = same_ttl i;
          path = same_path i;
          origin = names.wrapping_token;
          reply = text i;
        }

    pub was_kept : (w : Waiting) (x : IsWrapped permits traits act start q names s.command s.done v)
        → w ≡ kept_entry start q.path q.wrap_ttl names x.0 → KeepsReply a (body a) w.origin
    was_kept w (r, made, wraps_, answered, is) here =
        let token = token_text names.wrapping_token in
        let entry = kept_entry start q.path q.wrap_ttl names r in
        let is_first = entry_is r made answered in
        record {
          ttl = ltb-true 0 a.ask.wrap_ttl
              (ap (nat_lt 0) (sym same_ttl) ∙ (and_parts (nat_lt 0 q.wrap_ttl) (traits s.command).may_wrap wraps_).0);
          origin = ap (λ (z : Waiting). z.origin) here;
          made = made;
          accessor = (tells s r made answered).1;
          told = ap (λ (x : Outcome). x.response) s.outcome ∙ ap (λ (x : Wrapped). response_to x.done.answered) is
              ∙ ap (λ (z : Waiting). ok (reply_text (wrap_reply names.request (wrap_info token z made)))) is_first;
          waits = ap (λ (z : Waiting). get a.outcome.next.waiting (token_text z.origin)) here
              ∙ ap (λ (m : Map Waiting). get m token) waiting_is
              ∙ ap (λ (x : Wrapped). get x.done.next.waiting token) is
              ∙ get-put_self s.done.next.waiting token entry ∙ ap Some is_first;
        }

    served_waits : (t : Text) (w : Waiting) → get a.outcome.next.waiting t ≡ Some w
        → WaitedBefore a.broker w ⊎ IsBorn a (body a) w
    served_waits t w e = elim (what_is_left.waits t w (ap (λ (m : Map Waiting). get m t) (sym waiting_is) ∙ e)) [
      | inl old ↦ inl (was_waiting a.broker a.moment w (same_waited now start w (spent_waiting now s.caller) old))
      | inr (x, here) ↦ inr (record {
        origin = ap (λ (z : Outcome). z.born) s.outcome ∙ ap (λ (z : Wrapped). z.born) x.4
            ∙ ap Some (sym (ap (λ (z : Waiting). z.origin) here));
        reply = ap (λ (z : Waiting). z.reply) here ∙ (tells s x.0 x.1 x.3).0;
        kept = was_kept w x here;
      })
    ]

    served_keeps : Keeps body a
    served_keeps = record {
      evolves = served_evolves;
      taken_are_new = ap (are_new a.broker.used) taken_is
          ∙ ap (λ (m : Map ⊤). are_new m v.done.taken) (sym (spent_used now s.caller)) ∙ what_is_left.new;
      taken_are_used = ap (λ (c : Broker). c.used) next_is
          ∙ end_spent_used (with_used v.done.next v.done.taken) s.caller
          ∙ ap (λ (m : Map ⊤). use_up m v.done.taken) (what_is_left.used ∙ spent_used now s.caller)
          ∙ ap (use_up a.broker.used) (sym taken_is);
      hands_out = served_hands_out;
      born_is_taken = λ o e. ap (list_any (same o)) taken_is
          ∙ what_is_left.born o (sym (ap (λ (x : Outcome). x.born) s.outcome) ∙ e);
      waits = served_waits;
    }

  -- what a request keeps, if its outcome is that of the order
  pub request_keeps : TellsBody → a.outcome ≡ ordered permits traits act a.broker a.moment q names → Keeps body a
  request_keeps tells is =
      elim (subst (λ (o : Outcome). IsTurnedAway now q o ⊎
      (IsTurnedDown now o ⊎ IsServed permits traits act now q names o)) (sym is)
      (order_cases permits traits act a.broker a.moment q names)) [
        | inl s ↦ turned_away s
        | inr t ↦ elim t [ inl s ↦ turned_down s | inr s ↦ served_keeps tells s ]
      ]
