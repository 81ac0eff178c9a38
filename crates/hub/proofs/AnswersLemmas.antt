-- A run of the hub, one event after another.
use Rattle.std.proofs.Common.{◌≡◌, ◌+◌, ◌<◌, ◌≤◌, ◌∷◌, ◌++◌, arith, ◌∙◌, ℕ, List, [], length, take, get_or, refl, sym}
use Rattle.broker_model.specs.Words.{ap, subst, None, take_more, take_all, Rows, Fault, Sound, Kept, IsHonestStore}
use Rattle.broker_model.specs.Words.{forms}
use Rattle.broker_rows.specs.Words.{Represents}
use Rattle.hub.specs.Words.{FaultsAt, NextConnections, RunConnections, Connections, World, Run, IsLater, HubRepresents}
use Rattle.hub.specs.Words.{ConnectionsRepresent, hub_store, Answers, AnswersOne, StopsAt, StopsTurns, TookTurns, Hub}
use Rattle.hub.specs.Words.{Event, EventsAsked, asked_on, run_left}
use Rattle.histories.specs.Words.{AreAsked, History}
use Rattle.hub.proofs.RunHistories.{AreAsked-one, EventsAsked-append, goes}
use Rattle.hub.proofs.RunLemmas.{Run-append, Run-unique, RunConnections-push}

-- the first events, and one more
take-more : (events : List Event) (i : ℕ) (e : Event) → i < length events → e ≡ get_or events i e
    → take (i + 1) events ≡ take i events ++ e ∷ []
take-more events i e lt is =
    take_more events i e lt ∙ ap (λ (x : Event). take i events ++ x ∷ []) (sym is)

-- an event with its piece as it was handed on
abbrev pub with_piece : Event → List ℕ → Event
with_piece e piece = record { conn = e.conn; piece = piece; moment = e.moment; words = e.words }

-- a run has no other replies
pub answers_of : {S : Type 0} (seen : S → Kept) (w : World) (events : List Event) (replies : List (List ℕ))
    (hub : Hub S) (after : World)
    → Run w events replies after → (history : History) → EventsAsked w events replies history after
    → AreAsked w.broker history
    → HubRepresents seen hub after → Answers seen w events replies hub
answers_of seen w events replies hub after run history asks asked represents =
    record {
      after = after;
      run = run;
      history = history;
      asks = asks;
      asked = asked;
      only = λ others other is. (Run-unique w events replies others after other run is).0;
      represents = represents;
    }

-- no event, and nothing was asked
pub answers_none : {S : Type 0} (seen : S → Kept) (w : World) (hub : Hub S) → HubRepresents seen hub w
    → Answers seen w [] [] hub
answers_none seen w hub represents = answers_of seen w [] [] hub w refl [] refl tt represents

-- one event of a sound broker
pub answers_one : {S : Type 0} (seen : S → Kept) (w : World) (e : Event) (bytes : List ℕ) (hub : Hub S)
    → Sound forms None w.broker
    → AnswersOne seen w e bytes hub → Answers seen w (e ∷ []) (bytes ∷ []) hub
answers_one seen w e bytes hub sound n =
    let g = goes w e bytes n.after n.next in
    answers_of seen w (e ∷ []) (bytes ∷ []) hub n.after (n.after, n.next, refl) (g.0 ∷ []) (n.after, g.1, refl)
    (AreAsked-one w.broker g.0 (λ a is. g.2 a is sound)) n.represents

-- events, and others after them
pub answers_on : {S : Type 0} (seen : S → Kept) (w : World) (es fs : List Event) (rs ss : List (List ℕ))
    (old new : Hub S)
    (a : Answers seen w es rs old) → Answers seen a.after fs ss new → Answers seen w (es ++ fs) (rs ++ ss) new
answers_on seen w es fs rs ss old new a b =
    answers_of seen w (es ++ fs) (rs ++ ss) new b.after (Run-append w es fs rs ss a.after b.after a.run b.run)
    (a.history ++ b.history)
    (EventsAsked-append w es fs rs ss a.history b.history a.after b.after a.asks b.asks)
    (asked_on w.broker a.after.broker a.history b.history (run_left w es rs a.history a.after a.asks) a.asked b.asked)
    b.represents

pub answers_more : {S : Type 0} (seen : S → Kept) (w : World) (events : List Event) (i : ℕ) (e : Event)
    (piece bytes : List ℕ)
    (replies : List (List ℕ)) (old new : Hub S) → i < length events → e ≡ get_or events i e → piece ≡ e.piece
    → Answers seen w (take i events) replies old
    → ((v : World) → HubRepresents seen old v → AnswersOne seen v (with_piece e piece) bytes new)
    → Answers seen w (take (i + 1) events) (replies ++ bytes ∷ []) new
answers_more seen w events i e piece bytes replies old new lt is same a next =
    let one : AnswersOne seen a.after e bytes new =
    subst (λ (l : List ℕ). AnswersOne seen a.after (with_piece e l) bytes new) same (next a.after a.represents) in
    subst (λ (es : List Event). Answers seen w es (replies ++ bytes ∷ []) new) (sym (take-more events i e lt is))
    (answers_on seen w (take i events) (e ∷ []) replies (bytes ∷ []) old new a
    (answers_one seen a.after e bytes new a.represents.broker.sound one))

pub honest_before : (a b : Kept) → a.mismatches ≤ b.mismatches → IsHonestStore b → IsHonestStore a
honest_before a b le honest = omega (arith, le, honest)

-- a store after two calls
pub later_still : (a b c : Kept) → IsLater a b → IsLater b c → IsLater a c
later_still a b c first second =
    record {
      mismatches = omega (arith, first.mismatches, second.mismatches);
      closes = λ open_. first.closes (second.closes open_);
    }

pub stops_at : {S : Type 0} (seen : S → Kept) (w : World) (events : List Event) (i : ℕ) (e : Event) (piece : List ℕ)
    (replies : List (List ℕ))
    (fault : Fault) (old new : Hub S)
    → e ≡ get_or events i e → piece ≡ e.piece → Answers seen w (take i events) replies old
    → (hub_store seen new).rows ≡ (hub_store seen old).rows
    → ((all : Connections) → ConnectionsRepresent old all → (next : Connections) × ConnectionsRepresent new next
    × FaultsAt fault all e.conn piece next)
    → StopsAt seen w events i replies fault new
stops_at seen w events i e piece replies fault old new is same a kept leaves =
    let f = leaves a.after.connections a.represents.connections in
    record {
      before = a.after;
      run = a.run;
      event = e;
      at = is;
      after = f.0;
      left = subst (λ (l : List ℕ). FaultsAt fault a.after.connections e.conn l f.0) same f.2;
      represents = record {
        broker = subst (λ (l : Rows). Represents None l a.after.broker)
            (sym kept) a.represents.broker;
        connections = f.1;
      };
    }

pub answers_all : {S : Type 0} (seen : S → Kept) (w : World) (events : List Event) (i : ℕ) (replies : List (List ℕ))
    (hub : Hub S)
    → length events ≤ i → Answers seen w (take i events) replies hub → Answers seen w events replies hub
answers_all seen w events i replies hub le a =
    subst (λ (es : List Event). Answers seen w es replies hub) (take_all i events le) a

-- ---- whatever the rows are

pub turns_more : {S : Type 0} (all : Connections) (events : List Event) (i : ℕ) (e : Event) (piece bytes : List ℕ)
    (replies : List (List ℕ))
    (old new : Hub S) → i < length events → e ≡ get_or events i e → piece ≡ e.piece
    → TookTurns all (take i events) replies old
    → ((each : Connections) → ConnectionsRepresent old each
    → (next : Connections) × ConnectionsRepresent new next × NextConnections each e.conn piece e.moment bytes next)
    → TookTurns all (take (i + 1) events) (replies ++ bytes ∷ []) new
turns_more all events i e piece bytes replies old new lt is same t gives =
    let n = gives t.after t.represents in
    let one : NextConnections t.after e.conn e.piece e.moment bytes n.0 =
    subst (λ (l : List ℕ). NextConnections t.after e.conn l e.moment bytes n.0) same n.2 in
    record {
      after = n.0;
      run = subst (λ (es : List Event). RunConnections all es (replies ++ bytes ∷ []) n.0)
          (sym (take-more events i e lt is))
          (RunConnections-push all (take i events) replies t.after e bytes n.0 t.run one);
      represents = n.1;
    }

pub turns_stop : {S : Type 0} (all : Connections) (events : List Event) (i : ℕ) (e : Event) (piece : List ℕ)
    (replies : List (List ℕ))
    (fault : Fault) (old new : Hub S) → e ≡ get_or events i e → piece ≡ e.piece
    → TookTurns all (take i events) replies old
    → ((each : Connections) → ConnectionsRepresent old each → (next : Connections) × ConnectionsRepresent new next
    × FaultsAt fault each e.conn piece next)
    → StopsTurns all events i replies fault new
turns_stop all events i e piece replies fault old new is same t leaves =
    let f = leaves t.after t.represents in
    record {
      before = t.after;
      run = t.run;
      event = e;
      at = is;
      after = f.0;
      left = subst (λ (l : List ℕ). FaultsAt fault t.after e.conn l f.0) same f.2;
      represents = f.1;
    }

pub turns_all : {S : Type 0} (all : Connections) (events : List Event) (i : ℕ) (replies : List (List ℕ)) (hub : Hub S)
    → length events ≤ i → TookTurns all (take i events) replies hub → TookTurns all events replies hub
turns_all all events i replies hub le t =
    subst (λ (es : List Event). TookTurns all es replies hub) (take_all i events le) t
