-- What serving a connection between a source and a sink leaves (this project's definition).
use Rattle.std.specs.Prelude.{◌≡◌, ◌≢◌, ◌⊎◌, ◌≤◌, ◌∷◌, ◌++◌, ℕ, true, List, [], Option, None, ⊤, IsTrue, length, map}
use Rattle.broker_model.specs.Words.{Result, Err, IfErr, MatchResult, OnErr, IsAtEnd, All, concat, IsMemoryOrStorage}
use Rattle.broker_model.specs.Words.{fault_number, Storage, Kept, IsHonestStore}
use Rattle.histories.specs.Words.{AreAsked, History}
use Rattle.http_layer.specs.Words.{IsFront, need}
use Rattle.hub.specs.AnyRows.{RunConnections, close_history}
use Rattle.hub.specs.Feeding.{IsLater}
use Rattle.hub.specs.Histories.{EventsAsked}
use Rattle.hub.specs.ListedReplies.{IsListedReply}
use Rattle.hub.specs.Representing.{ConnectionsRepresent, HubRepresents, hub_store}
use Rattle.hub.specs.Runs.{Answers, TookTurns}
use Rattle.hub.specs.World.{Connections, FollowsRequests, Run, World, history_at}
use Rattle.hub.specs.declared.event.Event.{Event}
use Rattle.hub.specs.declared.hub.Hub.{Hub}
use Rattle.hub.specs.declared.serve.ConnectionFault.{ConnectionFault}
use Rattle.hub.specs.declared.serve.ConnectionFault.TheVariants.{Broker, Read, Write}

-- how many bytes are read at once, at most
abbrev pub longest_piece : ℕ
longest_piece = 8192

-- how many reads one connection gets
abbrev pub most_reads : ℕ
most_reads = 4294967296

-- ---- faults

-- the number under which programs report the fault
abbrev pub connection_fault_number : ConnectionFault → ℕ
connection_fault_number (Broker fault) = fault_number fault
connection_fault_number Read = 5
connection_fault_number Write = 6

-- a fault that rows which represent a broker allow: of memory or storage, or of the source or the sink
abbrev pub IsAllowed : ConnectionFault → Type 0
IsAllowed (Broker fault) = IsMemoryOrStorage fault
IsAllowed Read = ⊤
IsAllowed Write = ⊤

-- ---- events of one connection

-- an event of the connection, with a piece of at most 8,192 bytes
abbrev pub IsEventOf : ℕ → Event → Type 0
IsEventOf conn e = (e.conn ≡ conn) × (length e.piece ≤ longest_piece)

-- events of the connection, and listed replies to them, one an event
pub record Exchange (conn : ℕ) : Type 0 where
  pub events : List Event
  pub replies : List (List ℕ)
  pub each : length replies ≡ length events
  pub of_connection : All (IsEventOf conn) events
  pub listed : All IsListedReply replies

-- the pieces of the events, joined
abbrev pub pieces_in : List Event → List ℕ
pieces_in events = concat (map (λ e. e.piece) events)

-- the replies, joined
abbrev pub sent_in : {conn : ℕ} → Exchange conn → List ℕ
sent_in exchange = concat exchange.replies

-- ---- serving

-- There are events of the connection whose pieces joined are what was read, and whose replies joined are what was
-- written; their moments and words are what was drawn. From each world that the hub represented they ran with these
-- replies and no others, and it represents the world after them. Whatever rows its store has, each took its turn.
pub record Proceeds {S : Type 0} (seen : S → Kept) (conn : ℕ) (Reads Writes : List ℕ → Type 0)
    (Draws : List Event → Type 0) (old new : Hub S) : Type 0 where
  pub exchange : Exchange conn
  pub reads : Reads (pieces_in exchange.events)
  pub writes : Writes (sent_in exchange)
  pub draws : Draws exchange.events
  pub answers : IsHonestStore (hub_store seen new) → (w : World) → HubRepresents seen old w
      → Answers seen w exchange.events exchange.replies new
  pub turns : (all : Connections) → ConnectionsRepresent old all
      → TookTurns all exchange.events exchange.replies new

-- the connection is closed, or it was not seen and still is not; no other changes
abbrev pub LeavesClosed : Connections → ℕ → Connections → Type 0
LeavesClosed all conn after = (after ≡ close_history all conn) ⊎ ((all conn ≡ None) × (after ≡ all))

-- The events were answered so, and the history is what they asked, one after another, of sound brokers.
pub record RunsBefore (w : World) (events : List Event) (replies : List (List ℕ)) : Type 0 where
  pub after : World
  pub run : Run w events replies after
  pub history : History
  pub asks : EventsAsked w events replies history after
  pub asked : AreAsked w.broker history

-- The same, and then the connection was closed, or is still not seen.
pub record RunsUntil {S : Type 0} (seen : S → Kept) (w : World) (conn : ℕ) (events : List Event)
    (replies : List (List ℕ)) (hub : Hub S) : Type 0 where
  pub before : World
  pub run : Run w events replies before
  pub history : History
  pub asks : EventsAsked w events replies history before
  pub asked : AreAsked w.broker history
  pub after : Connections
  pub left : LeavesClosed before.connections conn after
  pub represents : HubRepresents seen hub (record before { connections = after })

-- the events took their turns so, and then the connection was closed, or is still not seen
pub record TurnsUntil {S : Type 0} (all : Connections) (conn : ℕ) (events : List Event) (replies : List (List ℕ))
    (hub : Hub S) : Type 0 where
  pub before : Connections
  pub run : RunConnections all events replies before
  pub after : Connections
  pub left : LeavesClosed before conn after
  pub represents : ConnectionsRepresent hub after

-- it is known what the fault left; of a fault of the broker only as long as the storage can still be asked
abbrev pub IsKnown : ConnectionFault → Kept → Type 0
IsKnown (Broker fault) store = IsTrue store.is_open
IsKnown Read store = ⊤
IsKnown Write store = ⊤

-- the event that was not answered: the one that had a fault of the broker; none if a read or a write failed
abbrev pub IsUnanswered : ℕ → ConnectionFault → List Event → Type 0
IsUnanswered conn (Broker fault) last = (e : Event) × IsEventOf conn e × (last ≡ e ∷ [])
IsUnanswered conn Read last = last ≡ []
IsUnanswered conn Write last = last ≡ []

-- The same of events before the fault. With the event that was not answered, their pieces joined are what was read, and
-- their moments and words are what was drawn. Unless a write failed, what was written is their replies joined. What the
-- fault left is said where it is known.
pub record Stops {S : Type 0} (seen : S → Kept) (conn : ℕ) (Reads Writes : List ℕ → Type 0)
    (Draws : List Event → Type 0) (fault : ConnectionFault) (old new : Hub S) : Type 0 where
  pub exchange : Exchange conn
  pub last : List Event
  pub unanswered : IsUnanswered conn fault last
  pub reads : Reads (pieces_in (exchange.events ++ last))
  pub writes : fault ≢ Write → Writes (sent_in exchange)
  pub draws : Draws (exchange.events ++ last)
  pub before : IsHonestStore (hub_store seen new) → (w : World) → HubRepresents seen old w
      → RunsBefore w exchange.events exchange.replies
  pub answers : IsHonestStore (hub_store seen new) → IsKnown fault (hub_store seen new)
      → (w : World) → HubRepresents seen old w → RunsUntil seen w conn exchange.events exchange.replies new
  pub turns : (all : Connections) → ConnectionsRepresent old all
      → TurnsUntil all conn exchange.events exchange.replies new

-- no other connection changes
pub record LeavesOthers {S : Type 0} (conn : ℕ) (all : Connections) (new : Hub S) : Type 0 where
  pub after : Connections
  pub represents : ConnectionsRepresent new after
  pub others : (k : ℕ) → k ≢ conn → after k ≡ all k

-- ---- endings

-- the next request of the connection needs more bytes
abbrev pub NeedsMore : Connections → ℕ → Type 0
NeedsMore all conn =
    (rest : List ℕ) → FollowsRequests (history_at all conn).stream (history_at all conn).answered rest
    → IsFront rest need

-- no request waits for its reply: the connection is closed, or its next request needs more bytes
abbrev pub IsAnswered : Connections → ℕ → Type 0
IsAnswered all conn = ((history_at all conn).closed ≡ true) ⊎ NeedsMore all conn

-- the connection is closed, or the input has ended and the next request needs more bytes
abbrev pub HasEnded : Option (List ℕ) → Connections → ℕ → Type 0
HasEnded left all conn = ((history_at all conn).closed ≡ true) ⊎ (IsAtEnd left × NeedsMore all conn)

-- the connection is closed, or not seen
abbrev pub IsGone : Connections → ℕ → Type 0
IsGone all conn = ((history_at all conn).closed ≡ true) ⊎ (all conn ≡ None)

-- ---- a call that serves

-- Which faults a call has, and what it leaves of the store. On a broker's rows its faults are of memory or storage, or
-- of the source or the sink. One of reading or of writing has this cause, and one of storage comes only if the store
-- failed. Whatever the rows are, an honest store closes only at a fault of storage.
pub record KeepsStore {S A : Type 0} (seen : S → Kept) (ReadFails WriteFails : Type 0) (r : Result A ConnectionFault)
    (old new : Hub S) : Type 0 where
  pub wants : IsHonestStore (hub_store seen new) → (w : World) → HubRepresents seen old w → IfErr r IsAllowed
  pub read : r ≡ Err Read → ReadFails
  pub write : r ≡ Err Write → WriteFails
  pub storage : r ≡ Err (Broker Storage) → IsTrue (hub_store seen new).has_failed
  pub stays_open : IsHonestStore (hub_store seen new) → MatchResult r
      (λ _. (hub_store seen new).is_open ≡ (hub_store seen old).is_open)
      (λ fault. fault ≢ Broker Storage → (hub_store seen new).is_open ≡ (hub_store seen old).is_open)
  pub later : IsLater (hub_store seen old) (hub_store seen new)

-- A call served the connection, to its return or up to a fault. Whatever the rows are, no other connection changes, and
-- after a fault this one is closed or not seen.
pub record Serves {S A : Type 0} (seen : S → Kept) (conn : ℕ) (Reads Writes : List ℕ → Type 0)
    (Draws : List Event → Type 0) (ReadFails WriteFails : Type 0) (r : Result A ConnectionFault) (old new : Hub S)
    : Type 0 where
  pub served : MatchResult r (λ _. Proceeds seen conn Reads Writes Draws old new)
      (λ fault. Stops seen conn Reads Writes Draws fault old new)
  pub others : (all : Connections) → ConnectionsRepresent old all → LeavesOthers conn all new
  pub gone : OnErr r ((all : Connections) → ConnectionsRepresent new all → IsGone all conn)
  pub keeps : KeepsStore seen ReadFails WriteFails r old new
