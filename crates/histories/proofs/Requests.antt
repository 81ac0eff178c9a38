-- What each request of a history keeps.
use Rattle.std.proofs.Common.{◌≡◌, ◌⊎◌, ◌∷◌, ◌||◌}
use Rattle.api_json.specs.Readers as reader
use Rattle.histories.specs.Words.{ℕ, zero, suc, List, [], Bool, true, false, Option, Some, None, Result, Ok, Err, refl}
use Rattle.histories.specs.Words.{sym, ◌∙◌, ap, subst, false≢true, none-some, same_Some, Text, Map, Response, Broker}
use Rattle.histories.specs.Words.{Mount, Names, names_of, reply, Done, ◌>>=◌, ok_step, Sound, Ask, Refusal, Reply}
use Rattle.histories.specs.Words.{Words, ok_inj, Route, route_of, Operation, WrappingOperation, body_members}
use Rattle.histories.specs.Words.{plain_reply, reply_text, act, Command, on_cubbyhole, on_token, on_secret, on_policy}
use Rattle.histories.specs.Words.{on_mount, on_lease, on_issued, on_wrapping, command_by, command_for, command_of}
use Rattle.histories.specs.Words.{meant_by, forms, OperationsDoAsTold, Outcome, ordered, permits, are_proper, Request}
use Rattle.histories.specs.Words.{ok, request_of, step, traits, unwrapped_ask, opens, token_meant, wrapping_command}
use Rattle.histories.specs.Words.{act_on_wrappings, object, compact_text, WrappingCommand, AreAsked, Asking, AskedAt}
use Rattle.histories.specs.Words.{History, IsAsked, clocked, answer_by, object_text, unwrapped_answer, unwrapped_body}
use Rattle.histories.specs.Words.{not, nat_lt, at_moment, unless, are_new, Verb, Traits, Wrapped, finish, needed}
use Rattle.histories.specs.Words.{permission_denied, response_to, serve, unwrapped, wrapped, Reason}
use Rattle.histories.proofs.Keeping.{EachKeeps, Keeps}
use Rattle.histories.proofs.OrderCases.{IsServed, spent, with_caller}
use Rattle.histories.proofs.OrderKeeps.{request_keeps, own_new}

-- ---- laws of requests without their wrap TTL

-- the request without its wrap TTL
abbrev pub plain : {Command : Type 0} → Request Command → Request Command
plain q = record q { wrap_ttl = 0 }

module _ {Command : Type 0} (permits : Broker → Option Text → Verb → Text → Bool) (traits : Command → Traits)
    (act : Broker → Option Text → Names → Command → Result Done Refusal) (b : Broker) (moment : ℕ)
    (q : Request Command) (names : Names) (o : Outcome) where
  abbrev now : Broker
  now = at_moment b moment

  module _ (s : IsServed permits traits act now q names o) (free : (traits s.command).must_wrap ≡ false) where
    abbrev start : Broker
    start = spent now s.caller

    -- the last steps of serving, from the identifiers on
    abbrev from_names : Command → Result Wrapped Refusal
    from_names command = do
      fresh ← unless (are_new start.used (needed permits traits act (plain q) names command)) Refusal.IdentifierUsed
      asked ← unless (not (traits command).must_wrap || nat_lt 0 0) (Refusal.BadRequest Reason.WrappingRequired)
      done ← act start s.caller names command
      Ok (wrapped permits traits act start (plain q) names command done)

    -- without the wrap TTL the same operation runs, and its reply is not wrapped
    plain_serves : serve permits traits act start s.caller (plain q) names ≡ Ok (unwrapped s.done)
    plain_serves =
        ap (λ v. unless v permission_denied >>= (λ allowed. q.command start >>= from_names)) s.allowed
        ∙ ap (λ (r : Result Command Refusal). r >>= from_names) s.means
        ∙ ap (λ v. unless v Refusal.IdentifierUsed >>= (λ fresh.
        unless (not (traits s.command).must_wrap || nat_lt 0 0) (Refusal.BadRequest Reason.WrappingRequired)
        >>= (λ asked.
        act start s.caller names s.command >>= (λ done. Ok
        (wrapped permits traits act start (plain q) names s.command done)))))
        (own_new permits traits act start.used q names s.command s.new)
        ∙ ap (λ v. unless (not v || nat_lt 0 0) (Refusal.BadRequest Reason.WrappingRequired) >>= (λ asked.
        act start s.caller names s.command >>= (λ done. Ok
        (wrapped permits traits act start (plain q) names s.command done)))) free
        ∙ ap (λ (r : Result Done Refusal). r
        >>= (λ done. Ok (wrapped permits traits act start (plain q) names s.command done))) s.acted

    -- so its text is the body of the reply
    pub plain_tells : (r : Reply) (made : Option Text) → s.done.answered ≡ reply r made
        → (ordered permits traits act b moment (plain q) names).response ≡ ok (reply_text r)
    plain_tells r made answered =
        ap (λ (x : Outcome). x.response) (with_caller permits traits act b moment (plain q) names s.caller s.asked)
        ∙ ap (λ (x : Result Wrapped Refusal). (finish start s.caller x).response) plain_serves
        ∙ ap response_to answered

-- ---- an ask without its wrap TTL

-- the wrap TTL of an ask means nothing for its command
command_by_plain : (o : Operation) (r : Route) (a : Ask) → command_by o r (unwrapped_ask a) ≡ command_by o r a
command_by_plain (Operation.Cubbyholes o) r a = refl
command_by_plain (Operation.Tokens o) r a = refl
command_by_plain (Operation.Secrets o) r a = refl
command_by_plain (Operation.Policies o) r a = refl
command_by_plain (Operation.Mounts o) r a = refl
command_by_plain (Operation.Leases o) r a = refl
command_by_plain (Operation.Issued o) r a = refl
command_by_plain (Operation.Wrappings o) r a = refl

pub command_plain : (mounts : Map Mount) (a : Ask) → command_of mounts (unwrapped_ask a) ≡ command_of mounts a
command_plain mounts a =
    elim (route_of mounts a.verb a.path) as
    (λ (found : Result Route Refusal). (found >>= (λ r. command_for r (unwrapped_ask a)))
    ≡ (found >>= (λ r. command_for r a))) [
      | Ok r ↦ command_by_plain r.operation r a
      | Err e ↦ refl
    ]

request_plain : (a : Ask) → request_of (unwrapped_ask a) ≡ plain (request_of a)
request_plain a = λ i. record {
  verb = a.verb;
  path = a.path;
  token = a.token;
  wrap_ttl = 0;
  command = λ b. command_plain b.mounts a i;
  is_open = opens a.verb a.path a.token a.body;
}

-- the step of an ask without its wrap TTL
step_plain : (b : Broker) (moment : ℕ) (words : Words) (a : Ask)
    → step b moment words (unwrapped_ask a) ≡ ordered permits traits act b moment (plain (request_of a))
    (names_of words)
unfolding step
step_plain b moment words a = ap (λ (q : Request Command). ordered permits traits act b moment q (names_of words))
    (request_plain a)

-- ---- an ask to wrap

abbrev is_of_responses : Command → Bool
is_of_responses (on_wrapping command) = true
is_of_responses _ = false

-- no other part means to wrap
module _ {C : Type 0} (on : C → Command) (apart : (x : C) → is_of_responses (on x) ≡ false) where
  no_wrap : (m : Result C Refusal) (k : WrappingCommand) {P : Type 0} → meant_by on m ≡ Ok (on_wrapping k) → P
  no_wrap m k e =
      let x = ok_step m (λ command. Ok (on command)) (on_wrapping k) e in
      absurd (false≢true (sym (apart x.0) ∙ ap is_of_responses (ok_inj x.2)))

pub is_wrap_of : {x y : WrappingCommand} → on_wrapping x ≡ on_wrapping y → x ≡ y
is_wrap_of e = cc

-- the text of an ask to wrap is the object of its body
by_wrapping : (o : WrappingOperation) (client : Option Text) (body : List ℕ) (text : Text)
    → wrapping_command o client body ≡ Ok (WrappingCommand.Wrap text) → object_text (body_members body) ≡ text
by_wrapping WrappingOperation.Wrap client body text e =
    let m = ok_step (body_members body) (λ members. Ok (WrappingCommand.Wrap (compact_text (object members))))
    (WrappingCommand.Wrap text) e in
    ap object_text m.1 ∙ same_wrap (ok_inj m.2)
  where
    same_wrap : {s t : Text} → WrappingCommand.Wrap s ≡ WrappingCommand.Wrap t → s ≡ t
    same_wrap e = cc
by_wrapping WrappingOperation.LookUp client body text e =
    let m = ok_step (body_members body) _ (WrappingCommand.Wrap text) e in
    let n = ok_step (reader.wrapping_token m.0) (λ named. Ok (WrappingCommand.LookUp (token_meant client named)))
    (WrappingCommand.Wrap text) m.2 in
    absurd (apart (ok_inj n.2))
  where
    apart : {o : Option Text} → WrappingCommand.LookUp o ≡ WrappingCommand.Wrap text → ⊥
    apart e = cc
by_wrapping WrappingOperation.Rewrap client body text e =
    let m = ok_step (body_members body) _ (WrappingCommand.Wrap text) e in
    let n = ok_step (reader.wrapping_token m.0) (λ named. Ok (WrappingCommand.Rewrap (token_meant client named)))
    (WrappingCommand.Wrap text) m.2 in
    absurd (apart (ok_inj n.2))
  where
    apart : {o : Option Text} → WrappingCommand.Rewrap o ≡ WrappingCommand.Wrap text → ⊥
    apart e = cc
by_wrapping WrappingOperation.Unwrap client body text e =
    let m = ok_step (body_members body) _ (WrappingCommand.Wrap text) e in
    let n = ok_step (reader.wrapping_token m.0) (λ named. Ok (WrappingCommand.Unwrap (token_meant client named)))
    (WrappingCommand.Wrap text) m.2 in
    absurd (apart (ok_inj n.2))
  where
    apart : {o : Option Text} → WrappingCommand.Unwrap o ≡ WrappingCommand.Wrap text → ⊥
    apart e = cc

by_operation : (o : Operation) (r : Route) (a : Ask) (text : Text)
    → command_by o r a ≡ Ok (on_wrapping (WrappingCommand.Wrap text)) → object_text (body_members a.body) ≡ text
by_operation (Operation.Cubbyholes o) r a text e =
    no_wrap (on_cubbyhole r.parameter) (λ x. refl) _ (WrappingCommand.Wrap text) e
by_operation (Operation.Tokens o) r a text e = no_wrap on_token (λ x. refl) _ (WrappingCommand.Wrap text) e
by_operation (Operation.Secrets o) r a text e = no_wrap (on_secret _) (λ x. refl) _ (WrappingCommand.Wrap text) e
by_operation (Operation.Policies o) r a text e = no_wrap (on_policy r.parameter) (λ x. refl) _
    (WrappingCommand.Wrap text) e
by_operation (Operation.Mounts o) r a text e = no_wrap (on_mount r.parameter) (λ x. refl) _ (WrappingCommand.Wrap text)
    e
by_operation (Operation.Leases o) r a text e = no_wrap (on_lease r.parameter) (λ x. refl) _ (WrappingCommand.Wrap text)
    e
by_operation (Operation.Issued o) r a text e = no_wrap (on_issued _) (λ x. refl) _ (WrappingCommand.Wrap text) e
by_operation (Operation.Wrappings o) r a text e =
    let x = ok_step (wrapping_command o a.token a.body) (λ command. Ok (on_wrapping command))
    (on_wrapping (WrappingCommand.Wrap text)) e in
    by_wrapping o a.token a.body text (x.1 ∙ ap Ok (is_wrap_of (ok_inj x.2)))

wraps_object : (mounts : Map Mount) (a : Ask) (text : Text)
    → command_of mounts a ≡ Ok (on_wrapping (WrappingCommand.Wrap text))
    → object_text (body_members a.body) ≡ text
wraps_object mounts a text e =
    let r = ok_step (route_of mounts a.verb a.path) (λ r. command_for r a) (on_wrapping (WrappingCommand.Wrap text)) e
    in
    by_operation r.0.operation r.0 a text r.2

-- ---- what each request keeps

-- a command on responses is the same with or without a caller
pub acts_same : (b : Broker) (caller : Option Text) (names : Names) (command : WrappingCommand)
    → act b caller names (on_wrapping command) ≡ act_on_wrappings b names command
acts_same b None names command = refl
acts_same b (Some c) names command = refl

same_reply_of : {r : Reply} {made : Option Text} {z : Reply} → reply z None ≡ reply r made → reply_text z ≡ reply_text r
same_reply_of e = cc

-- what an operation replied is the answer
tells_by : (b : Broker) (caller : Option Text) (names : Names) (body : List ℕ) (answer : Response) (command : Command)
    (d : Done)
    (r : Reply) (made : Option Text) → act b caller names command ≡ Ok d → d.answered ≡ reply r made
    → ((wrapped : Text) → command ≡ on_wrapping (WrappingCommand.Wrap wrapped)
    → object_text (body_members body) ≡ wrapped)
    → ((traits command).must_wrap ≡ false → answer ≡ ok (reply_text r))
    → answer_by names body answer (Ok command) ≡ ok (reply_text r)
tells_by b caller names body answer (on_cubbyhole path command) d r made acted answered object_is plainly_ =
    plainly_ refl
tells_by b caller names body answer (on_token command) d r made acted answered object_is plainly_ = plainly_ refl
tells_by b caller names body answer (on_secret place command) d r made acted answered object_is plainly_ = plainly_ refl
tells_by b caller names body answer (on_policy name command) d r made acted answered object_is plainly_ = plainly_ refl
tells_by b caller names body answer (on_mount name command) d r made acted answered object_is plainly_ = plainly_ refl
tells_by b caller names body answer (on_lease prefix command) d r made acted answered object_is plainly_ = plainly_ refl
tells_by b caller names body answer (on_issued place command) d r made acted answered object_is plainly_ = plainly_ refl
tells_by b caller names body answer (on_wrapping (WrappingCommand.LookUp t)) d r made acted answered object_is plainly_
    =
    plainly_ refl
tells_by b caller names body answer (on_wrapping (WrappingCommand.Rewrap t)) d r made acted answered object_is plainly_
    =
    plainly_ refl
tells_by b caller names body answer (on_wrapping (WrappingCommand.Unwrap t)) d r made acted answered object_is plainly_
    =
    plainly_ refl
tells_by b caller names body answer (on_wrapping (WrappingCommand.Wrap wrapped)) d r made acted answered object_is
    plainly_ =
    ap (λ z. ok (reply_text (plain_reply names.request z))) (object_is wrapped refl)
    ∙ ap ok (same_reply_of (ap (λ (z : Done). z.answered)
    (ok_inj (sym (acts_same b caller names (WrappingCommand.Wrap wrapped)) ∙ acted)) ∙ answered))

pub spent_mounts : (b : Broker) (who : Option Text) → (spent b who).mounts ≡ b.mounts
spent_mounts b None = refl
spent_mounts b (Some c) = refl

-- what a request that was served means at its clock
pub means_at_clock : (a : Asking) (caller : Option Text) (command : Command)
    → (request_of a.ask).command (spent (clocked a) caller) ≡ Ok command
    → command_of (clocked a).mounts a.ask ≡ Ok command
means_at_clock a caller command means =
    ap (λ (m : Map Mount). command_of m a.ask) (sym (spent_mounts (clocked a) caller)) ∙ means

-- without a wrap TTL, what a request that was served replied is the answer
pub answers_plainly : (a : Asking)
    (s : IsServed permits traits act (clocked a) (request_of a.ask) (names_of a.words) a.outcome) (r : Reply)
    (made : Option Text)
    → s.done.answered ≡ reply r made → unwrapped_answer a ≡ ok (reply_text r)
unfolding step
answers_plainly a s r made answered =
    let answer = (step a.broker a.moment a.words (unwrapped_ask a.ask)).response in
    let means = means_at_clock a s.caller s.command s.means in
    ap (answer_by (names_of a.words) a.ask.body answer) means
    ∙ tells_by (spent (clocked a) s.caller) s.caller (names_of a.words) a.ask.body answer s.command s.done r made
    s.acted answered
    (λ wrapped is_wrap. wraps_object (clocked a).mounts a.ask wrapped (means ∙ ap Ok is_wrap))
    (λ free. ap (λ (x : Outcome). x.response) (step_plain a.broker a.moment a.words a.ask)
    ∙ plain_tells permits traits act a.broker a.moment (request_of a.ask) (names_of a.words) a.outcome s free r made
    answered)

-- so its body is the text of what was replied; of a token that was made it tells the accessor alone
pub tells_body : OperationsDoAsTold → (a : Asking)
    (s : IsServed permits traits act (clocked a) (request_of a.ask) (names_of a.words) a.outcome)
    (r : Reply) (made : Option Text) → s.done.answered ≡ reply r made
    → (reply_text r ≡ unwrapped_body a) × ((made ≡ None) ⊎ (made ≡ Some (names_of a.words).accessor))
tells_body told a s r made answered = (
  sym (ap (λ (x : Response). x.text) (answers_plainly a s r made answered)),
  (told (spent (clocked a) s.caller) s.caller a.words s.command s.done s.acted).made r made answered,
)

module _ (told : OperationsDoAsTold) where
  asked_keep : (b : Broker) (a : Asking) → IsAsked b a → Keeps unwrapped_body a
  unfolding step
  asked_keep b a is =
      let sound : Sound forms None a.broker = subst (Sound forms None) (sym is.broker) is.sound in
      let outcome : a.outcome ≡ step a.broker a.moment a.words a.ask =
      is.outcome ∙ ap (λ c. step c a.moment a.words a.ask) (sym is.broker) in
      request_keeps permits traits act unwrapped_body a (request_of a.ask) refl refl
      (λ c caller command d new done. are_proper told c caller a.words command d new done)
      sound.identifiers sound.waiting
      (tells_body told a)
      outcome

  pub history_keeps : (b : Broker) (history : History) → AreAsked b history → EachKeeps unwrapped_body b history
  history_keeps b [] h = tt
  history_keeps b (None ∷ later) h = history_keeps b later h
  history_keeps b (Some a ∷ later) (is, h) = (is.broker, asked_keep b a is, history_keeps a.outcome.next later h)

-- what is asked at a place is asked of a sound broker
pub asked_at : (b : Broker) (history : History) (i : ℕ) (a : Asking) → AreAsked b history → AskedAt history i a
    → IsAsked a.broker a
asked_at b [] i a h at = absurd (none-some _ at)
asked_at b (None ∷ later) zero a h at = absurd (none-some _ at)
asked_at b (None ∷ later) (suc i) a h at = asked_at b later i a h at
asked_at b (Some x ∷ later) zero a (is, h) at =
    subst (λ (y : Asking). IsAsked y.broker y) (same_Some _ _ at) (subst (λ c. IsAsked c x) (sym is.broker) is)
asked_at b (Some x ∷ later) (suc i) a (is, h) at = asked_at x.outcome.next later i a h at
