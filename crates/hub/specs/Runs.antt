-- What a run of events answers (this project's definition).
use Rattle.std.specs.Prelude.{◌≡◌, ℕ, List, [], map, take, Vec}
use Rattle.std.specs.List.{slice_index_or}
use Rattle.broker_model.specs.Words.{Global, Fault, Memory, Kept}
use Rattle.histories.specs.Words.{AreAsked, History}
use Rattle.hub.specs.AnyRows.{FaultsAt, RunConnections}
use Rattle.hub.specs.Histories.{EventsAsked}
use Rattle.hub.specs.World.{Connections, World, Next, Run}
use Rattle.hub.specs.Representing.{ConnectionsRepresent, HubRepresents}
use Rattle.hub.specs.declared.event.Event.{Event}
use Rattle.hub.specs.declared.hub.Hub.{Hub}

-- the replies, as lists of bytes
abbrev pub bytes_of : List (Vec ℕ Global) → List (List ℕ)
bytes_of replies = map (λ reply. reply.items) replies

-- the event was answered so, and the hub represents the world after it
pub record AnswersOne {S : Type 0} (seen : S → Kept) (w : World) (event : Event) (bytes : List ℕ) (hub : Hub S)
    : Type 0 where
  pub after : World
  pub next : Next w event bytes after
  pub represents : HubRepresents seen hub after

-- The events were answered so, no other replies are a run's, the history is what they asked, one after another, of
-- sound brokers, and the hub represents the world after them.
pub record Answers {S : Type 0} (seen : S → Kept) (w : World) (events : List Event)
    (replies : List (List ℕ)) (hub : Hub S) : Type 0 where
  pub after : World
  pub run : Run w events replies after
  pub history : History
  pub asks : EventsAsked w events replies history after
  pub asked : AreAsked w.broker history
  pub only : (others : List (List ℕ)) (other : World) → Run w events others other → replies ≡ others
  pub represents : HubRepresents seen hub after

-- no memory was found for the places of the replies, and nothing was done
pub record HadNoRoom {S : Type 0} (place : ℕ) (replies : List (Vec ℕ Global)) (fault : Fault) (old new : Hub S)
    : Type 0 where
  pub place_is : place ≡ 0
  pub no_replies : replies ≡ []
  pub memory : fault ≡ Memory
  pub same : new ≡ old

-- The run stopped at the event of that place: those before it were answered so, and the hub represents
-- the world before it with the connections that its fault left.
pub record StopsAt {S : Type 0} (seen : S → Kept) (w : World) (events : List Event) (place : ℕ)
    (replies : List (List ℕ)) (fault : Fault) (hub : Hub S) : Type 0 where
  pub before : World
  pub run : Run w (take place events) replies before
  pub event : Event
  pub at : event ≡ slice_index_or events place event
  pub after : Connections
  pub left : FaultsAt fault before.connections event.conn event.piece after
  pub represents : HubRepresents seen hub (record before { connections = after })

-- Whatever rows the store has: each event took its turn, these are the replies, and the hub's connections
-- represent those after them.
pub record TookTurns {S : Type 0} (all : Connections) (events : List Event) (replies : List (List ℕ)) (hub : Hub S)
    : Type 0 where
  pub after : Connections
  pub run : RunConnections all events replies after
  pub represents : ConnectionsRepresent hub after

-- Whatever rows the store has: the events before that of the place took their turns with these replies, and
-- the hub's connections represent those that its fault left.
pub record StopsTurns {S : Type 0} (all : Connections) (events : List Event) (place : ℕ)
    (replies : List (List ℕ)) (fault : Fault) (hub : Hub S) : Type 0 where
  pub before : Connections
  pub run : RunConnections all (take place events) replies before
  pub event : Event
  pub at : event ≡ slice_index_or events place event
  pub after : Connections
  pub left : FaultsAt fault before event.conn event.piece after
  pub represents : ConnectionsRepresent hub after
