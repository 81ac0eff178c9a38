-- What a hub does on all of its connections, one step after another (this project's definition).
use Rattle.std.specs.Prelude.{◌≡◌, ◌∷◌, ℕ, List, [], Option, None, ⊤, IsTrue, filter}
use Rattle.broker_model.specs.Words.{nat_eq, All, concat, flat_map, Kept, IsHonestStore}
use Rattle.histories.specs.Words.{AreAsked, Asking, History, left_by}
use Rattle.hub.specs.Feeding.{IsLater}
use Rattle.hub.specs.Histories.{EventAsked}
use Rattle.hub.specs.ListedReplies.{IsListedReply}
use Rattle.hub.specs.Representing.{HubRepresents, hub_store}
use Rattle.hub.specs.ServedConnection.{IsEventOf, LeavesClosed}
use Rattle.hub.specs.World.{Connections, World}
use Rattle.hub.specs.declared.event.Event.{Event}
use Rattle.hub.specs.declared.hub.Hub.{Hub}

-- ---- steps

-- An event was answered with these bytes; or it had a fault, and its connection was closed; or a connection was closed.
pub data Step : Type 0 where
  answered : Event → List ℕ → Step
  faulted : Event → Step
  closed : ℕ → Step

-- the number of its connection
abbrev pub conn_of : Step → ℕ
conn_of (answered e bytes) = e.conn
conn_of (faulted e) = e.conn
conn_of (closed conn) = conn

-- a step of the connection, with a piece of at most 8,192 bytes and a listed reply
abbrev pub IsStepOf : ℕ → Step → Type 0
IsStepOf conn (answered e bytes) = IsEventOf conn e × IsListedReply bytes
IsStepOf conn (faulted e) = IsEventOf conn e
IsStepOf conn (closed k) = k ≡ conn

-- the same of any connection
abbrev pub IsStep : Step → Type 0
IsStep s = IsStepOf (conn_of s) s

-- the event that was fed, if one was
abbrev pub fed_by : Step → List Event
fed_by (answered e bytes) = e ∷ []
fed_by (faulted e) = e ∷ []
fed_by (closed conn) = []

-- the events that were fed, those with a fault among them
abbrev pub fed_in : List Step → List Event
fed_in steps = flat_map fed_by steps

-- the steps of the connection, in their order
abbrev pub steps_of : ℕ → List Step → List Step
steps_of conn steps = filter (λ s. nat_eq (conn_of s) conn) steps

-- the reply, if an event was answered
abbrev pub reply_by : Step → List (List ℕ)
reply_by (answered e bytes) = bytes ∷ []
reply_by (faulted e) = []
reply_by (closed conn) = []

-- the replies, joined
abbrev pub replies_in : List Step → List ℕ
replies_in steps = concat (flat_map reply_by steps)

-- the events, answered with these replies
abbrev pub answers_of : List Event → List (List ℕ) → List Step
answers_of [] replies = []
answers_of (e ∷ es) [] = []
answers_of (e ∷ es) (bytes ∷ replies) = answered e bytes ∷ answers_of es replies

-- how a fault ends the connection: at the event that was not answered, or without one
abbrev pub stop_of : ℕ → List Event → List Step
stop_of conn [] = closed conn ∷ []
stop_of conn (e ∷ es) = faulted e ∷ []

-- the steps before the first event that had a fault
abbrev pub before_fault : List Step → List Step
before_fault [] = []
before_fault (answered e bytes ∷ later) = answered e bytes ∷ before_fault later
before_fault (faulted e ∷ later) = []
before_fault (closed conn ∷ later) = closed conn ∷ before_fault later

-- ---- from a world

-- The step asked this of the world's broker, or nothing, and this is the world after it. A connection that was not seen
-- can still be so when it was closed.
abbrev pub TakesStep : World → Step → Option Asking → World → Type 0
TakesStep w (answered e bytes) asking after = EventAsked w e bytes asking after
TakesStep w (faulted e) asking after =
    (left : Connections) × (asking ≡ None) × LeavesClosed w.connections e.conn left
    × (after ≡ record w { connections = left })
TakesStep w (closed conn) asking after =
    (left : Connections) × (asking ≡ None) × LeavesClosed w.connections conn left
    × (after ≡ record w { connections = left })

-- the steps asked these, one a step, in their order
abbrev pub TakesSteps : World → List Step → History → World → Type 0
TakesSteps w [] [] after = after ≡ w
TakesSteps w (s ∷ later) (asking ∷ history) after =
    (mid : World) × TakesStep w s asking mid × TakesSteps mid later history after
TakesSteps w _ _ after = ⊥

-- the steps were taken from the world, and what they asked was asked, one after another, of sound brokers
pub record StepsTaken (w : World) (steps : List Step) : Type 0 where
  pub after : World
  pub history : History
  pub taken : TakesSteps w steps history after
  pub asked : AreAsked w.broker history

-- The same, and the hub represents the world after them, with the broker that they left.
pub record StepsFrom {S : Type 0} (seen : S → Kept) (w : World) (steps : List Step) (hub : Hub S) : Type 0 where
  pub after : World
  pub history : History
  pub taken : TakesSteps w steps history after
  pub asked : AreAsked w.broker history
  pub left : after.broker ≡ left_by w.broker history
  pub represents : HubRepresents seen hub after

-- ---- of a hub

-- it is known what the steps left: after an event that had a fault only as long as the storage can still be asked
abbrev pub AreKnown : List Step → Kept → Type 0
AreKnown [] store = ⊤
AreKnown (answered e bytes ∷ later) store = AreKnown later store
AreKnown (faulted e ∷ later) store = IsTrue store.is_open
AreKnown (closed conn ∷ later) store = AreKnown later store

-- One list of steps over all connections, between two states of a hub: the moments and words of their events are what
-- was drawn. From each world that the hub represented they were taken, and it represents the world after them, as long
-- as the storage returned what was written, and it is known what they left. So were those before a fault, whether that
-- is known or not.
pub record StepsBetween {S : Type 0} (seen : S → Kept) (Draws : List Event → Type 0) (steps : List Step)
    (old new : Hub S) : Type 0 where
  pub each : All IsStep steps
  pub draws : Draws (fed_in steps)
  pub before : IsHonestStore (hub_store seen new) → (w : World) → HubRepresents seen old w
      → StepsTaken w (before_fault steps)
  pub worlds : IsHonestStore (hub_store seen new) → AreKnown steps (hub_store seen new)
      → (w : World) → HubRepresents seen old w → StepsFrom seen w steps new
  pub later : IsLater (hub_store seen old) (hub_store seen new)
