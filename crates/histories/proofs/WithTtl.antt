-- What is answered with a wrap TTL, where the identifiers are new, has the status that it would have without.
use Rattle.std.proofs.Common.{◌≡◌, ◌<◌, ◌||◌, ◌&&◌, ◌∷◌, if◌then◌else◌}
use Rattle.broker_model.specs.Words.{IsDistinct}
use Rattle.histories.specs.Words.{[], List, Bool, true, false, not, nat_lt, Some, Option, None, Result, Ok, Err}
use Rattle.histories.specs.Words.{is_none, ⊤, AllByRecursion, list_any, refl, sym, ◌∙◌, ap, arith, lt-ltb, or_right}
use Rattle.histories.specs.Words.{Text, same, same_self, Response, Broker, Map, get, Names, names_of, Answered, Done}
use Rattle.histories.specs.Words.{nothing, reply, kept_text, missing, plainly, ◌>>=◌, unless, ok_step, status_code}
use Rattle.histories.specs.Words.{are_new, Refusal, has, ok_inj, plain_reply, act, Command, command_of, on_cubbyhole}
use Rattle.histories.specs.Words.{on_issued, on_lease, on_mount, on_policy, on_secret, on_token, on_wrapping, Outcome}
use Rattle.histories.specs.Words.{Wrapped, finish, needed, response_to, unwrapped, wrap_200, permits, Request}
use Rattle.histories.specs.Words.{is_wrapped, operated, request_of, step, traits, unwrapped_ask, names_needed, Reason}
use Rattle.histories.specs.Words.{IssuedCommand, Needs, TokenCommand, WrappingCommand, AllNew, identifiers_made}
use Rattle.histories.specs.Words.{IsAllowed, Asking, clocked, spent_by, answer_by, unwrapped_answer, PoliciesDecide}
use Rattle.histories.proofs.Carried.{carried_for, leads_to, never_wrapped}
use Rattle.histories.proofs.Order.{command_plain, refused_code}

-- ---- new identifiers

-- one more that is new, and none of the others
one_more : (used : Map ⊤) (i : Text) (is : List Text) → get used i ≡ None → AllByRecursion (λ j. same i j ≡ false) is
    → are_new used is ≡ true → are_new used (i ∷ is) ≡ true
one_more used i is new differ rest =
    ap (λ o. is_none o && (not (list_any (same i) is) && are_new used is)) new
    ∙ ap (λ v. not v && are_new used is) (none_same is differ) ∙ rest
  where
    none_same : (is : List Text) → AllByRecursion (λ j. same i j ≡ false) is → list_any (same i) is ≡ false
    none_same [] differ = refl
    none_same (j ∷ js) (one, others) = ap (λ v. v || list_any (same i) js) one ∙ none_same js others

each_new : (used : Map ⊤) (is : List Text) → ((i : Text) → has is i ≡ true → get used i ≡ None)
    → AllByRecursion (λ i. get used i ≡ None) is
each_new used [] new = tt
each_new used (i ∷ is) new = (
  new i (ap (λ v. v || has is i) (same_self i)),
  each_new used is (λ j there. new j (or_right (same j i) (has is j) there)),
)

module _ (a : Asking) (all : AllNew a) where
  abbrev names : Names
  names = names_of a.words

  abbrev used : Map ⊤
  used = (clocked a).used

  abbrev n : AllByRecursion (λ i. get used i ≡ None) (identifiers_made a)
  n = each_new used (identifiers_made a) all.new

  -- those that a command needs are new
  own_new : (which : Needs) → are_new used (names_needed which names) ≡ true
  unfolding IsDistinct
  own_new Needs.Nothing = refl
  own_new Needs.Token =
      let token = all.differ.1.1.0 in
      one_more used names.token (names.accessor ∷ []) n.1.1.0 (token.0, tt)
      (one_more used names.accessor [] n.1.1.1.0 tt refl)
  own_new Needs.Lease =
      let lease = all.differ.1.1.1.1.0 in
      one_more used names.lease (names.credential ∷ []) n.1.1.1.1.0 (lease.0, tt)
      (one_more used names.credential [] n.1.1.1.1.1.0 tt refl)
  own_new Needs.WrappingToken =
      let token = all.differ.0 in
      one_more used names.wrapping_token (names.wrapping_accessor ∷ []) n.0 (token.0, tt)
      (one_more used names.wrapping_accessor [] n.1.0 tt refl)

  -- also beside those of a wrapping token
  both_new : (which : Needs) → (which ≡ Needs.WrappingToken → ⊥)
      → are_new used (names.wrapping_token ∷ names.wrapping_accessor ∷ names_needed which names) ≡ true
  unfolding IsDistinct
  both_new Needs.Nothing other = own_new Needs.WrappingToken
  both_new Needs.Token other =
      let token = all.differ.0 in
      let accessor = all.differ.1.0 in
      let its = names.token ∷ names.accessor ∷ [] in
      one_more used names.wrapping_token (names.wrapping_accessor ∷ its) n.0
      (token.0, (token.1.0, (token.1.1.0, tt)))
      (one_more used names.wrapping_accessor its n.1.0 (accessor.0, (accessor.1.0, tt)) (own_new Needs.Token))
  both_new Needs.Lease other =
      let token = all.differ.0 in
      let accessor = all.differ.1.0 in
      let its = names.lease ∷ names.credential ∷ [] in
      one_more used names.wrapping_token (names.wrapping_accessor ∷ its) n.0
      (token.0, (token.1.1.1.0, (token.1.1.1.1.0, tt)))
      (one_more used names.wrapping_accessor its n.1.0 (accessor.1.1.0, (accessor.1.1.1.0, tt)) (own_new Needs.Lease))
  both_new Needs.WrappingToken other = absurd (other refl)

  abbrev needed_if : Needs → Bool → List Text
  needed_if which v =
      if v then names.wrapping_token ∷ names.wrapping_accessor ∷ names_needed which names
      else names_needed which names

  either : (which : Needs) → (which ≡ Needs.WrappingToken → ⊥) → (v : Bool) → are_new used (needed_if which v) ≡ true
  either which other true = both_new which other
  either which other false = own_new which

  abbrev q : Request Command
  q = request_of a.ask

  not_nothing : Needs.Nothing ≡ Needs.WrappingToken → ⊥
  not_nothing e = cc

  not_token : Needs.Token ≡ Needs.WrappingToken → ⊥
  not_token e = cc

  not_lease : Needs.Lease ≡ Needs.WrappingToken → ⊥
  not_lease e = cc

  needed_new : (command : Command) → are_new used (needed permits traits act q names command) ≡ true
  needed_new (on_token (TokenCommand.Create making asked)) =
      either Needs.Token not_token (is_wrapped a.ask (on_token (TokenCommand.Create making asked)))
  needed_new (on_token k) = either Needs.Nothing not_nothing (is_wrapped a.ask (on_token k))
  needed_new (on_issued p IssuedCommand.Issue) =
      either Needs.Lease not_lease (is_wrapped a.ask (on_issued p IssuedCommand.Issue))
  needed_new (on_issued p k) = either Needs.Nothing not_nothing (is_wrapped a.ask (on_issued p k))
  needed_new (on_wrapping (WrappingCommand.Rewrap t)) =
      ap (λ v. are_new used (needed_if Needs.WrappingToken v))
      (never_wrapped a (on_wrapping (WrappingCommand.Rewrap t)) refl) ∙ own_new Needs.WrappingToken
  needed_new (on_wrapping k) = either Needs.Nothing not_nothing (is_wrapped a.ask (on_wrapping k))
  needed_new (on_cubbyhole path k) = either Needs.Nothing not_nothing (is_wrapped a.ask (on_cubbyhole path k))
  needed_new (on_secret p k) = either Needs.Nothing not_nothing (is_wrapped a.ask (on_secret p k))
  needed_new (on_policy name k) = either Needs.Nothing not_nothing (is_wrapped a.ask (on_policy name k))
  needed_new (on_mount name k) = either Needs.Nothing not_nothing (is_wrapped a.ask (on_mount name k))
  needed_new (on_lease prefix k) = either Needs.Nothing not_nothing (is_wrapped a.ask (on_lease prefix k))

-- ---- the status

-- wrapped or not, what an operation answers has one status
one_status : (b : Broker) (q : Request Command) (names : Names) (d : Done) (v : Bool)
    → (response_to (if v then wrap_200 b q.path q.wrap_ttl names d d.answered else unwrapped d).done.answered).status
    ≡ (response_to d.answered).status
one_status b q names d false = refl
one_status b q names d true = by d.answered refl
  where
    by : (x : Answered) → d.answered ≡ x
        → (response_to (wrap_200 b q.path q.wrap_ttl names d x).done.answered).status ≡ (response_to x).status
    by nothing e = ap (λ y. (response_to y).status) e
    by (reply r made) e = refl
    by (kept_text t) e = ap (λ y. (response_to y).status) e
    by (missing r) e = ap (λ y. (response_to y).status) e

module _ (decide : PoliciesDecide) (a : Asking) (is : a.outcome ≡ step a.broker a.moment a.words a.ask)
    (k : IsAllowed a) (some : 0 < a.ask.wrap_ttl) (all : AllNew a) where
  abbrev here : Broker
  here = spent_by a k.caller

  abbrev who : Option Text
  who = Some k.caller

  abbrev words_names : Names
  words_names = names_of a.words

  -- the ask without its wrap TTL
  abbrev bare : Asking
  bare = record a { ask = unwrapped_ask a.ask; outcome = step a.broker a.moment a.words (unwrapped_ask a.ask) }

  abbrev allowed_too : IsAllowed bare
  allowed_too = record {
    caller = k.caller;
    own = k.own;
    calls = record {
      client = k.calls.client;
      closed = k.calls.closed;
      no_response = k.calls.no_response;
      there = k.calls.there;
    };
    granted = k.granted;
  }

  means_too : command_of (clocked a).mounts (unwrapped_ask a.ask) ≡ command_of (clocked a).mounts a.ask
  means_too = command_plain (clocked a).mounts a.ask

  has_ttl : (v : Bool) → (not v || nat_lt 0 a.ask.wrap_ttl) ≡ true
  has_ttl v = or_right (not v) (nat_lt 0 a.ask.wrap_ttl) (lt-ltb 0 a.ask.wrap_ttl some)

  -- what its operation answers has the status of the answer
  by_operation : (command : Command) → command_of (clocked a).mounts a.ask ≡ Ok command → (d : Done)
      → act here who words_names command ≡ Ok d → a.outcome.response.status ≡ (response_to d.answered).status
  by_operation command means d acted =
      ap (λ (o : Outcome). o.response.status)
      (leads_to a here who command (carried_for a is command means decide k) (needed_new a all command)
      (has_ttl (traits command).must_wrap) d acted)
      ∙ one_status here (request_of a.ask) words_names d (is_wrapped a.ask command)

  refused_apart : (why : Refusal) (r : Response) → r.status ≡ (finish here who (Err why)).response.status
      → status_code r.status < 400 → ⊥
  refused_apart why r e low = omega (arith, low, refused_code why, ap status_code e)

  by_result : (command : Command) → command_of (clocked a).mounts a.ask ≡ Ok command → (r : Result Wrapped Refusal)
      → operated here who words_names (unwrapped_ask a.ask) command ≡ r
      → status_code bare.outcome.response.status < 400 → a.outcome.response.status ≡ bare.outcome.response.status
  by_result command means r e low =
      let carried = carried_for bare refl command (means_too ∙ means) decide allowed_too in
      by r e (carried ∙ ap (finish here who) e)
    where
      by : (r : Result Wrapped Refusal) → operated here who words_names (unwrapped_ask a.ask) command ≡ r
          → bare.outcome ≡ finish here who r → a.outcome.response.status ≡ bare.outcome.response.status
      by (Err why) e left =
          absurd (refused_apart why bare.outcome.response (ap (λ (o : Outcome). o.response.status) left) low)
      by (Ok v) e left =
          let n = ok_step (unless (are_new here.used
          (needed permits traits act (request_of (unwrapped_ask a.ask)) words_names command)) Refusal.IdentifierUsed) _
          v e in
          let m = ok_step (unless (not (traits command).must_wrap || nat_lt 0 0)
          (Refusal.BadRequest Reason.WrappingRequired)) _ v n.2 in
          let f = ok_step (act here who words_names command) _ v m.2 in
          by_operation command means f.0 f.1
          ∙ ap (λ (x : Wrapped). (response_to x.done.answered).status) (ok_inj f.2)
          ∙ sym (ap (λ (o : Outcome). o.response.status) left)

  by_meaning : (r : Result Command Refusal) → command_of (clocked a).mounts a.ask ≡ r
      → status_code (answer_by words_names a.ask.body bare.outcome.response r).status < 400
      → a.outcome.response.status ≡ (answer_by words_names a.ask.body bare.outcome.response r).status
  by_meaning (Err why) means low =
      absurd (refused_apart why bare.outcome.response
      (ap (λ (o : Outcome). o.response.status)
      (decide.granted a.broker a.moment a.words (unwrapped_ask a.ask) k.caller k.own allowed_too.calls k.granted
      ∙ ap (λ (r : Result Command Refusal). finish here who
      (r >>= operated here who words_names (unwrapped_ask a.ask))) (means_too ∙ means))) low)
  by_meaning (Ok (on_wrapping (WrappingCommand.Wrap text))) means low =
      by_operation (on_wrapping (WrappingCommand.Wrap text)) means
      (plainly (reply (plain_reply words_names.request text) None) here) refl
  by_meaning (Ok command) means low =
      by_result command means (operated here who words_names (unwrapped_ask a.ask) command) refl low

  pub status_stays : status_code (unwrapped_answer a).status < 400
      → a.outcome.response.status ≡ (unwrapped_answer a).status
  status_stays low =
      by_meaning (command_of (clocked a).mounts a.ask) refl low
