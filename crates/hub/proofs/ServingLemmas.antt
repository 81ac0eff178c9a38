-- Serving a connection: events run one after another.
use Rattle.std.specs.Prelude.{◌≡◌, ◌≢◌, ◌⊎◌, ◌+◌, ◌<◌, ◌≤◌, ◌∷◌, ◌++◌, ℕ, Bool, true, false, cond, List, [], length, Ok}
use Rattle.broker_model.specs.Words.{◌∙◌, inl, inr, map, MatchBool, Option, Some, None, Vec, IsTrue, refl, sym, ap}
use Rattle.broker_model.specs.Words.{subst, append_assoc, append-nil, arith, length-append, map-append, All-append}
use Rattle.broker_model.specs.Words.{All-cons, All-nil, concat-append, update_apart, IsAtEnd, concat, Global, Fault}
use Rattle.broker_model.specs.Words.{Memory, Words, Kept, IsHonestStore, Rows}
use Rattle.broker_rows.specs.Words.{Represents}
use Rattle.hub.specs.Words.{FaultsAt, NextConnections, RunConnections, TurnsOpen, close_history, Keeps, asked_on}
use Rattle.hub.specs.Words.{run_left, IsListedReply, ConnectionsRepresent, HubRepresents, hub_store, Answers}
use Rattle.hub.specs.Words.{AnswersOne, Exchange, pieces_in, sent_in, Proceeds, Stops, LeavesClosed, LeavesOthers}
use Rattle.hub.specs.Words.{IsEventOf, longest_piece, HasEnded, IsAnswered, IsUnanswered, RunsBefore, Connections}
use Rattle.hub.specs.Words.{History, World, history_at, put_history, Event, Hub, ConnectionFault, Broker as OfBroker}
use Rattle.hub.specs.Words.{Write}
use Rattle.hub.proofs.AnswersLemmas.{answers_none, answers_on, answers_one}
use Rattle.hub.proofs.RunHistories.{EventsAsked-append}
use Rattle.hub.proofs.RunLemmas.{Run-append}

-- ---- runs

RunConnections-append : (all : Connections) (es fs : List Event) (rs ss : List (List ℕ)) (mid after : Connections)
    → RunConnections all es rs mid → RunConnections mid fs ss after → RunConnections all (es ++ fs) (rs ++ ss) after
RunConnections-append all [] fs [] ss mid after run next =
    subst (λ (v : Connections). RunConnections v fs ss after) run next
RunConnections-append all [] fs (r ∷ rs) ss mid after run next = absurd run
RunConnections-append all (e ∷ es) fs [] ss mid after run next = absurd run
RunConnections-append all (e ∷ es) fs (r ∷ rs) ss mid after (v, first, run) next =
    (v, first, RunConnections-append v es fs rs ss mid after run next)

-- ---- exchanges

abbrev pub exchange_none : (conn : ℕ) → Exchange conn
exchange_none conn = record {
  events = [];
  replies = [];
  each = refl;
  of_connection = All-nil (IsEventOf conn);
  listed = All-nil IsListedReply;
}

abbrev exchange_one : (conn : ℕ) (e : Event) (bytes : List ℕ) → IsEventOf conn e → IsListedReply bytes → Exchange conn
exchange_one conn e bytes of listed =
    record {
      events = e ∷ [];
      replies = bytes ∷ [];
      each = refl;
      of_connection = All-cons (IsEventOf conn) e [] of (All-nil (IsEventOf conn));
      listed = All-cons IsListedReply bytes [] listed (All-nil IsListedReply);
    }

abbrev exchange_on : (conn : ℕ) → Exchange conn → Exchange conn → Exchange conn
exchange_on conn p q =
    record {
      events = p.events ++ q.events;
      replies = p.replies ++ q.replies;
      each = length-append p.replies q.replies ∙ ap (λ (n : ℕ). n + length q.replies) p.each
          ∙ ap (λ (n : ℕ). length p.events + n) q.each
          ∙ sym (length-append p.events q.events);
      of_connection = All-append (IsEventOf conn) p.events q.events p.of_connection q.of_connection;
      listed = All-append IsListedReply p.replies q.replies p.listed q.listed;
    }

pub pieces_on : (es fs : List Event) → pieces_in (es ++ fs) ≡ pieces_in es ++ pieces_in fs
pieces_on es fs = ap concat (map-append (λ (e : Event). e.piece) es fs)
    ∙ concat-append (map (λ (e : Event). e.piece) es) (map (λ (e : Event). e.piece) fs)

sent_on : (conn : ℕ) (p q : Exchange conn) → sent_in (exchange_on conn p q) ≡ sent_in p ++ sent_in q
sent_on conn p q = concat-append p.replies q.replies

-- ---- one call after another

-- what two calls read, wrote or drew, one after the other
abbrev pub Joins : {A : Type 0} → (List A → Type 0) → (List A → Type 0) → (List A → Type 0) → Type 0
Joins {A} P Q R = (a b : List A) → P a → Q b → R (a ++ b)

-- the store was honest before, if it is
abbrev pub HonestBefore : {S : Type 0} → (S → Kept) → Hub S → Hub S → Type 0
HonestBefore seen mid new = IsHonestStore (hub_store seen new) → IsHonestStore (hub_store seen mid)

pub proceeds_on : {S : Type 0} (seen : S → Kept) (conn : ℕ) (P Q R T U V : List ℕ → Type 0)
    (X Y Z : List Event → Type 0)
    (old mid new : Hub S) → Joins P Q R → Joins T U V → Joins X Y Z → HonestBefore seen mid new
    → Proceeds seen conn P T X old mid
    → Proceeds seen conn Q U Y mid new → Proceeds seen conn R V Z old new
proceeds_on seen conn P Q R T U V X Y Z old mid new reads writes draws before p q =
    record {
      exchange = exchange_on conn p.exchange q.exchange;
      reads = subst R (sym (pieces_on p.exchange.events q.exchange.events))
          (reads (pieces_in p.exchange.events) (pieces_in q.exchange.events) p.reads q.reads);
      writes = subst V (sym (sent_on conn p.exchange q.exchange))
          (writes (sent_in p.exchange) (sent_in q.exchange) p.writes q.writes);
      draws = draws p.exchange.events q.exchange.events p.draws q.draws;
      answers = λ honest w represents.
          let a = p.answers (before honest) w represents in
          answers_on seen w p.exchange.events q.exchange.events p.exchange.replies q.exchange.replies mid new a
          (q.answers honest a.after a.represents);
      turns = λ all represents.
          let a = p.turns all represents in
          let b = q.turns a.after a.represents in
          record {
            after = b.after;
            run = RunConnections-append all p.exchange.events q.exchange.events p.exchange.replies q.exchange.replies
                a.after b.after a.run b.run;
            represents = b.represents;
          };
    }

-- events that were answered, and others after them
abbrev before_on : {S : Type 0} (seen : S → Kept) (w : World) (es fs : List Event) (rs ss : List (List ℕ)) (hub : Hub S)
    (a : Answers seen w es rs hub) → RunsBefore a.after fs ss → RunsBefore w (es ++ fs) (rs ++ ss)
before_on seen w es fs rs ss hub a b =
    record {
      after = b.after;
      run = Run-append w es fs rs ss a.after b.after a.run b.run;
      history = a.history ++ b.history;
      asks = EventsAsked-append w es fs rs ss a.history b.history a.after b.after a.asks b.asks;
      asked = asked_on w.broker a.after.broker a.history b.history
          (run_left w es rs a.history a.after a.asks) a.asked b.asked;
    }

-- no event
pub before_none : (w : World) → RunsBefore w [] []
before_none w = record { after = w; run = refl; history = []; asks = refl; asked = tt }

pub stops_on : {S : Type 0} (seen : S → Kept) (conn : ℕ) (P Q R T U V : List ℕ → Type 0) (X Y Z : List Event → Type 0)
    (fault : ConnectionFault) (old mid new : Hub S) → Joins P Q R → Joins T U V → Joins X Y Z
    → HonestBefore seen mid new
    → Proceeds seen conn P T X old mid → Stops seen conn Q U Y fault mid new → Stops seen conn R V Z fault old new
stops_on seen conn P Q R T U V X Y Z fault old mid new reads writes draws before p s =
    let fed = s.exchange.events ++ s.last in
    let same = append_assoc p.exchange.events s.exchange.events s.last in
    record {
      exchange = exchange_on conn p.exchange s.exchange;
      last = s.last;
      unanswered = s.unanswered;
      reads = subst R (sym (ap pieces_in same ∙ pieces_on p.exchange.events fed))
          (reads (pieces_in p.exchange.events) (pieces_in fed) p.reads s.reads);
      writes = λ other.
          subst V (sym (sent_on conn p.exchange s.exchange))
          (writes (sent_in p.exchange) (sent_in s.exchange) p.writes (s.writes other));
      draws = subst Z (sym same) (draws p.exchange.events fed p.draws s.draws);
      before = λ honest w represents.
          let a = p.answers (before honest) w represents in
          before_on seen w p.exchange.events s.exchange.events p.exchange.replies s.exchange.replies mid a
          (s.before honest a.after a.represents);
      answers = λ honest known w represents.
          let a = p.answers (before honest) w represents in
          let b = s.answers honest known a.after a.represents in
          let all = before_on seen w p.exchange.events s.exchange.events p.exchange.replies s.exchange.replies mid a
          (record { after = b.before; run = b.run; history = b.history; asks = b.asks; asked = b.asked }) in
          record {
            before = b.before;
            run = all.run;
            history = all.history;
            asks = all.asks;
            asked = all.asked;
            after = b.after;
            left = b.left;
            represents = b.represents;
          };
      turns = λ all represents.
          let a = p.turns all represents in
          let b = s.turns a.after a.represents in
          record {
            before = b.before;
            run = RunConnections-append all p.exchange.events s.exchange.events p.exchange.replies s.exchange.replies
                a.after b.before a.run b.run;
            after = b.after;
            left = b.left;
            represents = b.represents;
          };
    }

-- nothing was done so far
abbrev pub proceeds_none : {S : Type 0} (seen : S → Kept) (conn : ℕ) (P T : List ℕ → Type 0) (X : List Event → Type 0)
    (hub : Hub S)
    → P [] → T [] → X [] → Proceeds seen conn P T X hub hub
proceeds_none seen conn P T X hub p t x =
    record {
      exchange = exchange_none conn;
      reads = p;
      writes = t;
      draws = x;
      answers = λ honest w represents. answers_none seen w hub represents;
      turns = λ all represents. record { after = all; run = refl; represents = represents };
    }

-- with other words for what was read
pub proceeds_so : {S : Type 0} (seen : S → Kept) (conn : ℕ) (P Q T : List ℕ → Type 0) (X : List Event → Type 0)
    (old new : Hub S)
    → ((l : List ℕ) → P l → Q l) → Proceeds seen conn P T X old new → Proceeds seen conn Q T X old new
proceeds_so seen conn P Q T X old new reads p =
    record {
      exchange = p.exchange;
      reads = reads (pieces_in p.exchange.events) p.reads;
      writes = p.writes;
      draws = p.draws;
      answers = p.answers;
      turns = p.turns;
    }

pub stops_so : {S : Type 0} (seen : S → Kept) (conn : ℕ) (P Q T : List ℕ → Type 0) (X : List Event → Type 0)
    (fault : ConnectionFault)
    (old new : Hub S) → ((l : List ℕ) → P l → Q l) → Stops seen conn P T X fault old new
    → Stops seen conn Q T X fault old new
stops_so seen conn P Q T X fault old new reads s =
    record {
      exchange = s.exchange;
      last = s.last;
      unanswered = s.unanswered;
      reads = reads (pieces_in (s.exchange.events ++ s.last)) s.reads;
      writes = s.writes;
      draws = s.draws;
      before = s.before;
      answers = s.answers;
      turns = s.turns;
    }

-- ---- one event

-- what comes on the connection, with its moment and its words
abbrev pub event_of : ℕ → List ℕ → ℕ → Words → Event
event_of conn piece m ws = record { conn = conn; piece = piece; moment = m; words = ws }

-- what feeding an event that had no fault ensures
pub record Fed {S : Type 0} (seen : S → Kept) (conn : ℕ) (piece : List ℕ) (m : ℕ) (ws : Words) (reply : Vec ℕ Global)
    (old new : Hub S)
    : Type 0 where
  pub short : length piece ≤ longest_piece
  pub answers : IsHonestStore (hub_store seen new) → (w : World) → HubRepresents seen old w
      → AnswersOne seen w (event_of conn piece m ws) reply.items new
  pub gives : (all : Connections) → ConnectionsRepresent old all
      → (after : Connections) × ConnectionsRepresent new after × NextConnections all conn piece m reply.items after
  pub listed : IsListedReply reply.items
  pub keeps : Keeps (hub_store seen old) (hub_store seen new) (Ok reply)

abbrev pub exchange_fed : {S : Type 0} (seen : S → Kept) (conn : ℕ) (piece : List ℕ) (m : ℕ) (ws : Words)
    (reply : Vec ℕ Global) (old new : Hub S)
    → Fed seen conn piece m ws reply old new → Exchange conn
exchange_fed seen conn piece m ws reply old new f =
    exchange_one conn (event_of conn piece m ws) reply.items (refl, f.short) f.listed

-- an event was answered
abbrev pub proceeds_one : {S : Type 0} (seen : S → Kept) (conn : ℕ) (piece : List ℕ) (m : ℕ) (ws : Words)
    (reply : Vec ℕ Global)
    (T : List ℕ → Type 0) (X : List Event → Type 0) (old new : Hub S) → Fed seen conn piece m ws reply old new
    → T (reply.items ++ [])
    → X (event_of conn piece m ws ∷ []) → Proceeds seen conn (λ read. read ≡ piece) T X old new
proceeds_one seen conn piece m ws reply T X old new f written drawn =
    let e : Event = event_of conn piece m ws in
    record {
      exchange = exchange_fed seen conn piece m ws reply old new f;
      reads = append-nil piece;
      writes = written;
      draws = drawn;
      answers = λ honest w represents. answers_one seen w e reply.items new represents.broker.sound
          (f.answers honest w represents);
      turns = λ all represents.
          let a = f.gives all represents in
          record { after = a.0; run = (a.0, a.2, refl); represents = a.1 };
    }

-- closing the connection leaves the store
pub record Closes {S : Type 0} (seen : S → Kept) (conn : ℕ) (mid new : Hub S) : Type 0 where
  pub store : hub_store seen new ≡ hub_store seen mid
  pub connections : (all : Connections) → ConnectionsRepresent mid all
      → (after : Connections) × ConnectionsRepresent new after × LeavesClosed all conn after

pub closed_world : {S : Type 0} (seen : S → Kept) (conn : ℕ) (mid new : Hub S) (w : World) → Closes seen conn mid new
    → HubRepresents seen mid w
    → (after : Connections) × LeavesClosed w.connections conn after
    × HubRepresents seen new (record w { connections = after })
closed_world seen conn mid new w c represents =
    let left = c.connections w.connections represents.connections in (
      left.0,
      left.2,
      record {
        broker = subst (λ (k : Kept). Represents None k.rows w.broker) (sym c.store) represents.broker;
        connections = left.1;
      },
    )

-- an event was answered, and writing its reply failed
abbrev pub stops_writing : {S : Type 0} (seen : S → Kept) (conn : ℕ) (piece : List ℕ) (m : ℕ) (ws : Words)
    (reply : Vec ℕ Global)
    (T : List ℕ → Type 0) (X : List Event → Type 0) (old mid new : Hub S) → Fed seen conn piece m ws reply old mid
    → Closes seen conn mid new
    → X (event_of conn piece m ws ∷ []) → Stops seen conn (λ read. read ≡ piece) T X Write old new
stops_writing seen conn piece m ws reply T X old mid new f c drawn =
    let e : Event = event_of conn piece m ws in
    record {
      exchange = exchange_fed seen conn piece m ws reply old mid f;
      last = [];
      unanswered = refl;
      reads = append-nil piece;
      writes = λ other. absurd (other refl);
      draws = drawn;
      before = λ honest w represents.
          let a = answers_one seen w e reply.items mid represents.broker.sound
          (f.answers (subst IsHonestStore c.store honest) w represents) in
          record { after = a.after; run = a.run; history = a.history; asks = a.asks; asked = a.asked };
      answers = λ honest known w represents.
          let a = answers_one seen w e reply.items mid represents.broker.sound
          (f.answers (subst IsHonestStore c.store honest) w represents) in
          let left = closed_world seen conn mid new a.after c a.represents in
          record {
            before = a.after;
            run = a.run;
            history = a.history;
            asks = a.asks;
            asked = a.asked;
            after = left.0;
            left = left.1;
            represents = left.2;
          };
      turns = λ all represents.
          let a = f.gives all represents in
          let left = c.connections a.0 a.1 in
          record { before = a.0; run = (a.0, a.2, refl); after = left.0; left = left.2; represents = left.1 };
    }

-- the connection was closed, since a read or a write failed
abbrev pub stops_closing : {S : Type 0} (seen : S → Kept) (conn : ℕ) (P T : List ℕ → Type 0) (X : List Event → Type 0)
    (fault : ConnectionFault) (mid new : Hub S) → IsUnanswered conn fault [] → P [] → T [] → X []
    → Closes seen conn mid new
    → Stops seen conn P T X fault mid new
stops_closing seen conn P T X fault mid new none p t x c =
    record {
      exchange = exchange_none conn;
      last = [];
      unanswered = none;
      reads = p;
      writes = λ other. t;
      draws = x;
      before = λ honest w represents. before_none w;
      answers = λ honest known w represents.
          let left = closed_world seen conn mid new w c represents in
          record {
            before = w;
            run = refl;
            history = [];
            asks = refl;
            asked = tt;
            after = left.0;
            left = left.1;
            represents = left.2;
          };
      turns = λ all represents.
          let left = c.connections all represents in
          record { before = all; run = refl; after = left.0; left = left.2; represents = left.1 };
    }

pub leaves_closed : (fault : Fault) (all : Connections) (conn : ℕ) (piece : List ℕ) (after : Connections)
    → FaultsAt fault all conn piece after
    → LeavesClosed all conn after
leaves_closed fault all conn piece after f = at f.left
  where
    at : (after ≡ close_history all conn) ⊎ ((fault ≡ Memory) × (all conn ≡ None) × (after ≡ all))
        → LeavesClosed all conn after
    at (inl closed) = inl closed
    at (inr (memory, unseen, same)) = inr (unseen, same)

-- an event had a fault
abbrev pub stops_feeding : {S : Type 0} (seen : S → Kept) (conn : ℕ) (piece : List ℕ) (m : ℕ) (ws : Words)
    (T : List ℕ → Type 0)
    (X : List Event → Type 0) (fault : Fault) (old new : Hub S) → length piece ≤ longest_piece → T []
    → X (event_of conn piece m ws ∷ [])
    → (IsHonestStore (hub_store seen new) → IsTrue (hub_store seen new).is_open
    → (hub_store seen new).rows ≡ (hub_store seen old).rows)
    → ((all : Connections) → ConnectionsRepresent old all → (after : Connections) × ConnectionsRepresent new after
    × FaultsAt fault all conn piece after)
    → Stops seen conn (λ read. read ≡ piece) T X (OfBroker fault) old new
stops_feeding seen conn piece m ws T X fault old new short written drawn kept faults =
    let e : Event = event_of conn piece m ws in
    record {
      exchange = exchange_none conn;
      last = e ∷ [];
      unanswered = (e, (refl, short), refl);
      reads = append-nil piece;
      writes = λ other. written;
      draws = drawn;
      before = λ honest w represents. before_none w;
      answers = λ honest is_open w represents.
          let f = faults w.connections represents.connections in
          record {
            before = w;
            run = refl;
            history = [];
            asks = refl;
            asked = tt;
            after = f.0;
            left = leaves_closed fault w.connections conn piece f.0 f.2;
            represents = record {
              broker = subst (λ (t : Rows). Represents None t w.broker) (sym (kept honest is_open)) represents.broker;
              connections = f.1;
            };
          };
      turns = λ all represents.
          let f = faults all represents in
          record {
            before = all;
            run = refl;
            after = f.0;
            left = leaves_closed fault all conn piece f.0 f.2;
            represents = f.1;
          };
    }

-- ---- other connections

others_put : (all : Connections) (conn : ℕ) (h : History) (after : Connections) → after ≡ put_history all conn h
    → (k : ℕ) → k ≢ conn → after k ≡ all k
others_put all conn h after is k ne = ap (λ (x : Connections). x k) is ∙ update_apart all conn (Some h) k ne

others_closed : (all : Connections) (conn : ℕ) (after : Connections) → LeavesClosed all conn after → (k : ℕ) → k ≢ conn
    → after k ≡ all k
others_closed all conn after (inl is) k ne =
    others_put all conn (record (history_at all conn) { closed = true }) after is k ne
others_closed all conn after (inr (unseen, same)) k ne = ap (λ (x : Connections). x k) same

others_at : (all : Connections) (conn : ℕ) (piece : List ℕ) (m : ℕ) (bytes : List ℕ) (after : Connections)
    (closed : Bool)
    → MatchBool closed ((bytes ≡ []) × (after ≡ all))
    ((h : History) × TurnsOpen (history_at all conn) piece m bytes h × (after ≡ put_history all conn h))
    → (k : ℕ) → k ≢ conn → after k ≡ all k
others_at all conn piece m bytes after true (none, same) k ne = ap (λ (x : Connections). x k) same
others_at all conn piece m bytes after false (h, turns, put) k ne = others_put all conn h after put k ne

-- a fed hub leaves the other connections
pub fed_leaves : {S : Type 0} (conn : ℕ) (piece : List ℕ) (m : ℕ) (bytes : List ℕ) (all : Connections) (new : Hub S)
    → (after : Connections) × ConnectionsRepresent new after × NextConnections all conn piece m bytes after
    → LeavesOthers conn all new
fed_leaves conn piece m bytes all new (after, represents, next) =
    record {
      after = after;
      represents = represents;
      others = others_at all conn piece m bytes after (history_at all conn).closed next;
    }

pub closed_leaves : {S : Type 0} (conn : ℕ) (all : Connections) (new : Hub S)
    → (after : Connections) × ConnectionsRepresent new after × LeavesClosed all conn after → LeavesOthers conn all new
closed_leaves conn all new (after, represents, left) =
    record { after = after; represents = represents; others = others_closed all conn after left }

pub fault_leaves : {S : Type 0} (conn : ℕ) (piece : List ℕ) (fault : Fault) (all : Connections) (new : Hub S)
    → (after : Connections) × ConnectionsRepresent new after × FaultsAt fault all conn piece after
    → LeavesOthers conn all new
fault_leaves conn piece fault all new (after, represents, faults) =
    closed_leaves conn all new (after, represents, leaves_closed fault all conn piece after faults)

pub leaves_none : {S : Type 0} (conn : ℕ) (all : Connections) (hub : Hub S) → ConnectionsRepresent hub all
    → LeavesOthers conn all hub
leaves_none conn all hub represents = record { after = all; represents = represents; others = λ k ne. refl }

-- one call after another
pub leaves_on : {S : Type 0} (conn : ℕ) (all : Connections) (mid new : Hub S) → LeavesOthers conn all mid
    → ((each : Connections) → ConnectionsRepresent mid each → LeavesOthers conn each new) → LeavesOthers conn all new
leaves_on conn all mid new l next =
    let n = next l.after l.represents in
    record { after = n.after; represents = n.represents; others = λ k ne. n.others k ne ∙ l.others k ne }

-- ---- endings

-- what an end of the input makes of an answered connection
pub ended_at : (left : Option (List ℕ)) (all : Connections) (conn : ℕ) → IsAtEnd left → IsAnswered all conn
    → HasEnded left all conn
ended_at left all conn end (inl closed) = inl closed
ended_at left all conn end (inr needs) = inr (end, needs)

-- what is read where the pieces are one piece and nothing more
pub joins_nothing : (piece nothing : List ℕ) → nothing ≡ []
    → Joins (λ read. read ≡ piece) (λ read. read ≡ nothing) (λ read. read ≡ piece)
joins_nothing piece nothing is a b p q = ap (λ (l : List ℕ). l ++ b) p ∙ ap (λ (l : List ℕ). piece ++ l) (q ∙ is)
    ∙ append-nil piece

-- a loop that goes on while replies come falls
pub measure_falls : (was more : Bool) (a b : ℕ) → was ≡ true → (more ≡ true → a < b)
    → cond more (a + 1) 0 < cond was (b + 1) 0
measure_falls was more a b is falls = subst (λ (x : Bool). cond more (a + 1) 0 < cond x (b + 1) 0) (sym is)
    (at more falls)
  where
    at : (more : Bool) → (more ≡ true → a < b) → cond more (a + 1) 0 < b + 1
    at true falls = let less = falls refl in omega (arith, less)
    at false falls = omega arith
