-- Steps that come one after another, and what turns and closings are as steps: lemmas for proofs here and above.
use Rattle.std.proofs.Common.{◌≡◌, ◌⊎◌, ◌∷◌, ◌++◌, ℕ, List, [], None, Result, Ok, Err, IsTrue, MatchResult, length, sym}
use Rattle.broker_model.specs.Words.{All, arith, refl, ◌∙◌, ap, subst, inl, inr, append-nil, flat_map-append}
use Rattle.broker_model.specs.Words.{All-append, All-cons, All-head, All-nil, All-tail, All-weaker, Kept, IsHonestStore}
use Rattle.histories.specs.Words.{History}
use Rattle.hub.specs.Feeding.{IsLater}
use Rattle.hub.specs.Histories.{EventsAsked}
use Rattle.hub.specs.HistoriesLaws.{asked_on, left_on, run_left}
use Rattle.hub.specs.ListedReplies.{IsListedReply}
use Rattle.hub.specs.Representing.{HubRepresents, hub_store}
use Rattle.hub.specs.Runs.{Answers}
use Rattle.hub.specs.ServedConnection.{Exchange, IsEventOf, IsKnown, IsUnanswered, LeavesClosed, Proceeds, RunsUntil}
use Rattle.hub.specs.ServedConnection.{Stops}
use Rattle.hub.specs.Steps.{AreKnown, IsStep, IsStepOf, Step, StepsBetween, StepsFrom, StepsTaken, TakesSteps, answered}
use Rattle.hub.specs.Steps.{answers_of, before_fault, closed, faulted, fed_by, fed_in, stop_of}
use Rattle.hub.specs.Turning.{TakesTurn, TurnStops}
use Rattle.hub.specs.World.{Connections, World}
use Rattle.hub.specs.declared.event.Event.{Event}
use Rattle.hub.specs.declared.hub.Hub.{Hub}
use Rattle.hub.specs.declared.serve.ConnectionFault.{ConnectionFault}
use Rattle.hub.specs.declared.serve.ConnectionFault.TheVariants.{Broker, Read, Write}
use Rattle.hub.specs.declared.turn.Turn.{Turn}

-- ---- from a world

pub TakesSteps-append : (w : World) (ss ts : List Step) (hs ks : History) (mid after : World)
    → TakesSteps w ss hs mid → TakesSteps mid ts ks after → TakesSteps w (ss ++ ts) (hs ++ ks) after
TakesSteps-append w [] ts [] ks mid after taken next =
    subst (λ (v : World). TakesSteps v ts ks after) taken next
TakesSteps-append w [] ts (h ∷ hs) ks mid after taken next = absurd taken
TakesSteps-append w (s ∷ ss) ts [] ks mid after taken next = absurd taken
TakesSteps-append w (s ∷ ss) ts (h ∷ hs) ks mid after (v, first, taken) next =
    (v, first, TakesSteps-append v ss ts hs ks mid after taken next)

-- no step
pub StepsFrom-nil : {S : Type 0} (seen : S → Kept) (w : World) (hub : Hub S) → HubRepresents seen hub w
    → StepsFrom seen w [] hub
StepsFrom-nil seen w hub represents =
    record { after = w; history = []; taken = refl; asked = tt; left = refl; represents = represents }

-- steps, and others after them
pub StepsFrom-append : {S : Type 0} (seen : S → Kept) (w : World) (ss ts : List Step) (mid new : Hub S)
    → (a : StepsFrom seen w ss mid) → StepsFrom seen a.after ts new → StepsFrom seen w (ss ++ ts) new
StepsFrom-append seen w ss ts mid new a b =
    record {
      after = b.after;
      history = a.history ++ b.history;
      taken = TakesSteps-append w ss ts a.history b.history a.after b.after a.taken b.taken;
      asked = asked_on w.broker a.after.broker a.history b.history a.left a.asked b.asked;
      left = left_on w.broker a.after.broker b.after.broker a.history b.history a.left b.left;
      represents = b.represents;
    }

taken_on : {S : Type 0} (seen : S → Kept) (w : World) (ss ts : List Step) (mid : Hub S) (a : StepsFrom seen w ss mid)
    → StepsTaken a.after ts → StepsTaken w (ss ++ ts)
taken_on seen w ss ts mid a b =
    record {
      after = b.after;
      history = a.history ++ b.history;
      taken = TakesSteps-append w ss ts a.history b.history a.after b.after a.taken b.taken;
      asked = asked_on w.broker a.after.broker a.history b.history a.left a.asked b.asked;
    }

-- ---- what is known

-- all is, as long as the storage can be asked
pub known_open : (store : Kept) (ss : List Step) → IsTrue store.is_open → AreKnown ss store
known_open store [] open_ = tt
known_open store (answered e bytes ∷ ss) open_ = known_open store ss open_
known_open store (faulted e ∷ ss) open_ = open_
known_open store (closed conn ∷ ss) open_ = known_open store ss open_

known_first : (old new : Kept) (ss ts : List Step) → IsLater old new → AreKnown (ss ++ ts) new → AreKnown ss old
known_first old new [] ts later known = tt
known_first old new (answered e bytes ∷ ss) ts later known = known_first old new ss ts later known
known_first old new (faulted e ∷ ss) ts later known = later.closes known
known_first old new (closed conn ∷ ss) ts later known = known_first old new ss ts later known

known_second : (new : Kept) (ss ts : List Step) → AreKnown (ss ++ ts) new → AreKnown ts new
known_second new [] ts known = known
known_second new (answered e bytes ∷ ss) ts known = known_second new ss ts known
known_second new (faulted e ∷ ss) ts known = known_open new ts known
known_second new (closed conn ∷ ss) ts known = known_second new ss ts known

-- The first fault is among the first steps, or what these left is known.
abbrev FaultIsFirst : List Step → List Step → Type 0
FaultIsFirst ss ts = before_fault (ss ++ ts) ≡ before_fault ss

abbrev FaultIsLater : List Step → List Step → Type 0
FaultIsLater ss ts = ((store : Kept) → AreKnown ss store) × (before_fault (ss ++ ts) ≡ ss ++ before_fault ts)

one_more : (s : Step) (ss ts : List Step) → before_fault (s ∷ ss) ≡ s ∷ before_fault ss
    → before_fault (s ∷ (ss ++ ts)) ≡ s ∷ before_fault (ss ++ ts)
    → ((store : Kept) → AreKnown ss store → AreKnown (s ∷ ss) store)
    → FaultIsFirst ss ts ⊎ FaultIsLater ss ts → FaultIsFirst (s ∷ ss) ts ⊎ FaultIsLater (s ∷ ss) ts
one_more s ss ts one all known (inl first) = inl (all ∙ ap (λ (l : List Step). s ∷ l) first ∙ sym one)
one_more s ss ts one all known (inr later) =
    inr ((λ store. known store (later.0 store)), all ∙ ap (λ (l : List Step). s ∷ l) later.1)

first_fault : (ss ts : List Step) → FaultIsFirst ss ts ⊎ FaultIsLater ss ts
first_fault [] ts = inr ((λ store. tt), refl)
first_fault (answered e bytes ∷ ss) ts =
    one_more (answered e bytes) ss ts refl refl (λ store known. known) (first_fault ss ts)
first_fault (faulted e ∷ ss) ts = inl refl
first_fault (closed conn ∷ ss) ts = one_more (closed conn) ss ts refl refl (λ store known. known) (first_fault ss ts)

-- ---- of a hub

-- nothing was done
pub steps_none : {S : Type 0} (seen : S → Kept) (X : List Event → Type 0) (hub : Hub S) → X []
    → StepsBetween seen X [] hub hub
steps_none seen X hub x =
    record {
      each = All-nil IsStep;
      draws = x;
      before = λ honest w represents. record { after = w; history = []; taken = refl; asked = tt };
      worlds = λ honest known w represents. StepsFrom-nil seen w hub represents;
      later = record { mismatches = omega arith; closes = λ open_. open_ };
    }

before_on : {S : Type 0} (seen : S → Kept) (w : World) (ss ts : List Step) (mid : Hub S)
    → FaultIsFirst ss ts ⊎ FaultIsLater ss ts → StepsTaken w (before_fault ss)
    → (AreKnown ss (hub_store seen mid) → StepsFrom seen w ss mid)
    → ((v : World) → HubRepresents seen mid v → StepsTaken v (before_fault ts))
    → StepsTaken w (before_fault (ss ++ ts))
before_on seen w ss ts mid (inl first) earlier from next = subst (StepsTaken w) (sym first) earlier
before_on seen w ss ts mid (inr later) earlier from next =
    let a = from (later.0 (hub_store seen mid)) in
    subst (StepsTaken w) (sym later.1) (taken_on seen w ss (before_fault ts) mid a (next a.after a.represents))

-- steps, and others after them: what was drawn for the first events, and then for the others, is drawn for all
pub steps_on : {S : Type 0} (seen : S → Kept) (X Y Z : List Event → Type 0) (ss ts : List Step) (old mid new : Hub S)
    → ((es fs : List Event) → X es → Y fs → Z (es ++ fs)) → StepsBetween seen X ss old mid
    → StepsBetween seen Y ts mid new → StepsBetween seen Z (ss ++ ts) old new
steps_on seen X Y Z ss ts old mid new joins p q =
    let honest_before : IsHonestStore (hub_store seen new) → IsHonestStore (hub_store seen mid) =
    λ honest. omega (arith, q.later.mismatches, honest) in
    record {
      each = All-append IsStep ss ts p.each q.each;
      draws = subst Z (sym (flat_map-append fed_by ss ts)) (joins (fed_in ss) (fed_in ts) p.draws q.draws);
      before = λ honest w represents.
          before_on seen w ss ts mid (first_fault ss ts) (p.before (honest_before honest) w represents)
          (λ known. p.worlds (honest_before honest) known w represents) (q.before honest);
      worlds = λ honest known w represents.
          let earlier = known_first (hub_store seen mid) (hub_store seen new) ss ts q.later known in
          let a = p.worlds (honest_before honest) earlier w represents in
          StepsFrom-append seen w ss ts mid new a
          (q.worlds honest (known_second (hub_store seen new) ss ts known) a.after a.represents);
      later = record {
        mismatches = omega (arith, p.later.mismatches, q.later.mismatches);
        closes = λ open_. p.later.closes (q.later.closes open_);
      };
    }

-- ---- events

-- events that were answered
pub EventsAsked-steps : (w : World) (es : List Event) (rs : List (List ℕ)) (hs : History) (after : World)
    → EventsAsked w es rs hs after → TakesSteps w (answers_of es rs) hs after
EventsAsked-steps w [] [] [] after run = run
EventsAsked-steps w [] [] (h ∷ hs) after run = absurd run
EventsAsked-steps w [] (r ∷ rs) hs after run = absurd run
EventsAsked-steps w (e ∷ es) [] hs after run = absurd run
EventsAsked-steps w (e ∷ es) (r ∷ rs) [] after run = absurd run
EventsAsked-steps w (e ∷ es) (r ∷ rs) (h ∷ hs) after (mid, one, run) =
    (mid, one, EventsAsked-steps mid es rs hs after run)

-- what was fed
pub fed_answers : (es : List Event) (rs : List (List ℕ)) → length rs ≡ length es → fed_in (answers_of es rs) ≡ es
fed_answers [] rs same = refl
fed_answers (e ∷ es) [] same = absurd (omega (arith, same))
fed_answers (e ∷ es) (r ∷ rs) same = ap (λ (l : List Event). e ∷ l) (fed_answers es rs (omega (arith, same)))

-- none of them had a fault
answers_unfaulted : (es : List Event) (rs : List (List ℕ)) (ts : List Step)
    → before_fault (answers_of es rs ++ ts) ≡ answers_of es rs ++ before_fault ts
answers_unfaulted [] rs ts = refl
answers_unfaulted (e ∷ es) [] ts = refl
answers_unfaulted (e ∷ es) (r ∷ rs) ts = ap (λ (l : List Step). answered e r ∷ l) (answers_unfaulted es rs ts)

answers_alone : (es : List Event) (rs : List (List ℕ)) → before_fault (answers_of es rs) ≡ answers_of es rs
answers_alone es rs = sym (ap before_fault (append-nil (answers_of es rs))) ∙ answers_unfaulted es rs []
    ∙ append-nil (answers_of es rs)

-- each is one of the connection
pub answers_each : (conn : ℕ) (es : List Event) (rs : List (List ℕ)) → All (IsEventOf conn) es → All IsListedReply rs
    → All (IsStepOf conn) (answers_of es rs)
answers_each conn [] rs all listed = All-nil (IsStepOf conn)
answers_each conn (e ∷ es) [] all listed = All-nil (IsStepOf conn)
answers_each conn (e ∷ es) (r ∷ rs) all listed =
    All-cons (IsStepOf conn) (answered e r) (answers_of es rs)
    (All-head (IsEventOf conn) e es all, All-head IsListedReply r rs listed)
    (answers_each conn es rs (All-tail (IsEventOf conn) e es all) (All-tail IsListedReply r rs listed))

step_of_any : (conn : ℕ) (s : Step) → IsStepOf conn s → IsStep s
step_of_any conn (answered e bytes) of = ((refl, of.0.1), of.1)
step_of_any conn (faulted e) of = (refl, of.1)
step_of_any conn (closed k) of = refl

-- ---- the end at a fault

stop_by : (P : List Event → Type 0) (conn : ℕ) (fault : ConnectionFault) (last : List Event)
    → IsUnanswered conn fault last → P [] → ((e : Event) → IsEventOf conn e → P (e ∷ [])) → P last
stop_by P conn (Broker fault) last (e, of, is) none one = subst P (sym is) (one e of)
stop_by P conn Read last is none one = subst P (sym is) none
stop_by P conn Write last is none one = subst P (sym is) none

stop_each : (conn : ℕ) (fault : ConnectionFault) (last : List Event) → IsUnanswered conn fault last
    → All (IsStepOf conn) (stop_of conn last)
stop_each conn fault last unanswered =
    stop_by (λ (l : List Event). All (IsStepOf conn) (stop_of conn l)) conn fault last unanswered
    (All-cons (IsStepOf conn) (closed conn) [] refl (All-nil (IsStepOf conn)))
    (λ e of. All-cons (IsStepOf conn) (faulted e) [] of (All-nil (IsStepOf conn)))

fed_stop : (conn : ℕ) (fault : ConnectionFault) (last : List Event) → IsUnanswered conn fault last
    → fed_in (stop_of conn last) ≡ last
fed_stop conn fault last unanswered =
    stop_by (λ (l : List Event). fed_in (stop_of conn l) ≡ l) conn fault last unanswered refl (λ e of. refl)

-- what was fed up to a fault
pub fed_stopped : (conn : ℕ) (fault : ConnectionFault) (last : List Event) (exchange : Exchange conn)
    → IsUnanswered conn fault last
    → fed_in (answers_of exchange.events exchange.replies ++ stop_of conn last) ≡ exchange.events ++ last
fed_stopped conn fault last exchange unanswered =
    let answers = answers_of exchange.events exchange.replies in
    let fed = fed_answers exchange.events exchange.replies exchange.each in
    flat_map-append fed_by answers (stop_of conn last) ∙ ap (λ (l : List Event). l ++ fed_in (stop_of conn last)) fed
    ∙ ap (λ (l : List Event). exchange.events ++ l) (fed_stop conn fault last unanswered)

-- and its steps are of the connection
pub stops_each : (conn : ℕ) (fault : ConnectionFault) (last : List Event) (exchange : Exchange conn)
    → IsUnanswered conn fault last
    → All (IsStepOf conn) (answers_of exchange.events exchange.replies ++ stop_of conn last)
stops_each conn fault last exchange unanswered =
    All-append (IsStepOf conn) (answers_of exchange.events exchange.replies) (stop_of conn last)
    (answers_each conn exchange.events exchange.replies exchange.of_connection exchange.listed)
    (stop_each conn fault last unanswered)

stop_taken : (w : World) (conn : ℕ) (fault : ConnectionFault) (last : List Event) (left : Connections)
    → IsUnanswered conn fault last → LeavesClosed w.connections conn left
    → TakesSteps w (stop_of conn last) (None ∷ []) (record w { connections = left })
stop_taken w conn fault last left unanswered closes =
    let after : World = record w { connections = left } in
    stop_by (λ (l : List Event). TakesSteps w (stop_of conn l) (None ∷ []) after) conn fault last unanswered
    (after, (left, refl, closes, refl), refl)
    (λ e of. (
      after,
      (left, refl, subst (λ (k : ℕ). LeavesClosed w.connections k left) (sym of.0) closes, refl),
      refl,
    ))

known_stop : (conn : ℕ) (fault : ConnectionFault) (last : List Event) (es : List Event) (rs : List (List ℕ))
    (store : Kept) → IsUnanswered conn fault last → AreKnown (answers_of es rs ++ stop_of conn last) store
    → IsKnown fault store
known_stop conn (Broker fault) last es rs store (e, of, is) known =
    subst (λ (l : List Event). AreKnown (stop_of conn l) store) is
    (known_second store (answers_of es rs) (stop_of conn last) known)
known_stop conn Read last es rs store is known = tt
known_stop conn Write last es rs store is known = tt

stop_closed : (conn : ℕ) (last : List Event) (es : List Event) (rs : List (List ℕ)) (w : World) → last ≡ []
    → StepsTaken w (answers_of es rs ++ stop_of conn last)
    → StepsTaken w (before_fault (answers_of es rs ++ stop_of conn last))
stop_closed conn last es rs w is all =
    subst (λ (l : List Event). StepsTaken w (before_fault (answers_of es rs ++ stop_of conn l))) (sym is)
    (subst (StepsTaken w) (sym (answers_unfaulted es rs (closed conn ∷ [])))
    (subst (λ (l : List Event). StepsTaken w (answers_of es rs ++ stop_of conn l)) is all))

stop_before : (conn : ℕ) (fault : ConnectionFault) (last : List Event) (es : List Event) (rs : List (List ℕ))
    (store : Kept) (w : World) → IsUnanswered conn fault last → StepsTaken w (answers_of es rs)
    → (IsKnown fault store → StepsTaken w (answers_of es rs ++ stop_of conn last))
    → StepsTaken w (before_fault (answers_of es rs ++ stop_of conn last))
stop_before conn (Broker fault) last es rs store w (e, of, is) earlier all =
    subst (λ (l : List Event). StepsTaken w (before_fault (answers_of es rs ++ stop_of conn l))) (sym is)
    (subst (StepsTaken w) (sym (answers_unfaulted es rs (faulted e ∷ []) ∙ append-nil (answers_of es rs))) earlier)
stop_before conn Read last es rs store w is earlier all = stop_closed conn last es rs w is (all tt)
stop_before conn Write last es rs store w is earlier all = stop_closed conn last es rs w is (all tt)

-- ---- serving, turns and closings

abbrev answered_from : {S : Type 0} (seen : S → Kept) (w : World) (es : List Event) (rs : List (List ℕ)) (hub : Hub S)
    → Answers seen w es rs hub → StepsFrom seen w (answers_of es rs) hub
answered_from seen w es rs hub a =
    record {
      after = a.after;
      history = a.history;
      taken = EventsAsked-steps w es rs a.history a.after a.asks;
      asked = a.asked;
      left = run_left w es rs a.history a.after a.asks;
      represents = a.represents;
    }

-- a connection that was served, as steps
pub steps_proceeding : {S : Type 0} (seen : S → Kept) (conn : ℕ) (P T : List ℕ → Type 0) (X : List Event → Type 0)
    (old new : Hub S) → IsLater (hub_store seen old) (hub_store seen new) → (p : Proceeds seen conn P T X old new)
    → StepsBetween seen X (answers_of p.exchange.events p.exchange.replies) old new
steps_proceeding seen conn P T X old new later p =
    let es = p.exchange.events in
    let rs = p.exchange.replies in
    record {
      each = All-weaker (IsStepOf conn) IsStep (step_of_any conn) (answers_of es rs)
          (answers_each conn es rs p.exchange.of_connection p.exchange.listed);
      draws = subst X (sym (fed_answers es rs p.exchange.each)) p.draws;
      before = λ honest w represents.
          let a = answered_from seen w es rs new (p.answers honest w represents) in
          subst (StepsTaken w) (sym (answers_alone es rs))
          (record { after = a.after; history = a.history; taken = a.taken; asked = a.asked });
      worlds = λ honest known w represents. answered_from seen w es rs new (p.answers honest w represents);
      later = later;
    }

abbrev stopped_from : {S : Type 0} (seen : S → Kept) (w : World) (conn : ℕ) (fault : ConnectionFault)
    (last es : List Event) (rs : List (List ℕ)) (hub : Hub S) → IsUnanswered conn fault last
    → RunsUntil seen w conn es rs hub → StepsFrom seen w (answers_of es rs ++ stop_of conn last) hub
stopped_from seen w conn fault last es rs hub unanswered u =
    let left = run_left w es rs u.history u.before u.asks in
    record {
      after = record u.before { connections = u.after };
      history = u.history ++ None ∷ [];
      taken = TakesSteps-append w (answers_of es rs) (stop_of conn last) u.history (None ∷ []) u.before
          (record u.before { connections = u.after }) (EventsAsked-steps w es rs u.history u.before u.asks)
          (stop_taken u.before conn fault last u.after unanswered u.left);
      asked = asked_on w.broker u.before.broker u.history (None ∷ []) left u.asked tt;
      left = left_on w.broker u.before.broker u.before.broker u.history (None ∷ []) left refl;
      represents = u.represents;
    }

-- one that had a fault, as steps
pub steps_stopping : {S : Type 0} (seen : S → Kept) (conn : ℕ) (P T : List ℕ → Type 0) (X : List Event → Type 0)
    (fault : ConnectionFault) (old new : Hub S) → IsLater (hub_store seen old) (hub_store seen new)
    → (s : Stops seen conn P T X fault old new)
    → StepsBetween seen X (answers_of s.exchange.events s.exchange.replies ++ stop_of conn s.last) old new
steps_stopping seen conn P T X fault old new later s =
    let es = s.exchange.events in
    let rs = s.exchange.replies in
    let answers = answers_of es rs in
    let stop = stop_of conn s.last in
    record {
      each = All-weaker (IsStepOf conn) IsStep (step_of_any conn) (answers ++ stop)
          (stops_each conn fault s.last s.exchange s.unanswered);
      draws = subst X (sym (fed_stopped conn fault s.last s.exchange s.unanswered)) s.draws;
      before = λ honest w represents.
          let b = s.before honest w represents in
          let earlier : StepsTaken w answers = record {
            after = b.after;
            history = b.history;
            taken = EventsAsked-steps w es rs b.history b.after b.asks;
            asked = b.asked;
          } in
          stop_before conn fault s.last es rs (hub_store seen new) w s.unanswered earlier (λ known.
          let a = stopped_from seen w conn fault s.last es rs new s.unanswered (s.answers honest known w represents) in
          record { after = a.after; history = a.history; taken = a.taken; asked = a.asked });
      worlds = λ honest known w represents.
          stopped_from seen w conn fault s.last es rs new s.unanswered
          (s.answers honest (known_stop conn fault s.last es rs (hub_store seen new) s.unanswered known) w represents);
      later = later;
    }

-- a turn, as steps
pub steps_turned : {S : Type 0} (seen : S → Kept) (conn : ℕ) (before after : List ℕ) (P T : List ℕ → Type 0)
    (X : List Event → Type 0)
    (old new : Hub S) (r : Result Turn ConnectionFault) → IsLater (hub_store seen old) (hub_store seen new)
    → MatchResult r (λ turn. TakesTurn seen turn conn before after P T X old new)
    (λ fault. TurnStops seen conn P T X fault old new)
    → (steps : List Step) × StepsBetween seen X steps old new
steps_turned seen conn before after P T X old new (Ok turn) later t = (
  answers_of t.on.exchange.events t.on.exchange.replies,
  steps_proceeding seen conn P T X old new later t.on,
)
steps_turned seen conn before after P T X old new (Err fault) later t = (
  answers_of t.stops.exchange.events t.stops.exchange.replies ++ stop_of conn t.stops.last,
  steps_stopping seen conn P T X fault old new later t.stops,
)

-- a closing, as a step
pub steps_close : {S : Type 0} (seen : S → Kept) (conn : ℕ) (X : List Event → Type 0) (old new : Hub S) → X []
    → ((w : World) → HubRepresents seen old w
    → (after : Connections) × LeavesClosed w.connections conn after
    × HubRepresents seen new (record w { connections = after }))
    → hub_store seen new ≡ hub_store seen old → StepsBetween seen X (closed conn ∷ []) old new
steps_close seen conn X old new x closes same =
    let from : (w : World) → HubRepresents seen old w → StepsFrom seen w (closed conn ∷ []) new =
    λ w represents.
    let c = closes w represents in
    record {
      after = record w { connections = c.0 };
      history = None ∷ [];
      taken = (record w { connections = c.0 }, (c.0, refl, c.1, refl), refl);
      asked = tt;
      left = refl;
      represents = c.2;
    } in
    record {
      each = All-cons IsStep (closed conn) [] refl (All-nil IsStep);
      draws = x;
      before = λ honest w represents.
          let a = from w represents in
          record { after = a.after; history = a.history; taken = a.taken; asked = a.asked };
      worlds = λ honest known w represents. from w represents;
      later = subst (IsLater (hub_store seen old)) (sym same)
          (record { mismatches = omega arith; closes = λ open_. open_ });
    }
