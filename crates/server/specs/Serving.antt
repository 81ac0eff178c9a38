-- What serving connections leaves: one list of steps over all of them, what each has read and sent, and the hub (this
-- project's definition).
use Rattle.std.specs.Prelude.{◌≡◌, ◌≢◌, ℕ, List, [], Option, Result, Err, IsTrue, IfErr, MatchResult}
use Rattle.std.specs.BTreeMap.{get}
use Rattle.std.specs.Ordering.{nat_cmp}
use Rattle.records.specs.Words.{None, Some, Fault, Memory, Storage, Kept, IsHonestStore, All}
use Rattle.histories.specs.Words.{KeepsLaws}
use Rattle.hub.specs.Links.{number_of}
use Rattle.hub.specs.ServedConnection.{LeavesOthers}
use Rattle.hub.specs.Steps.{AreKnown, IsStepOf, Step, StepsBetween, StepsFrom, StepsTaken, before_fault, steps_of}
use Rattle.hub.specs.Words.{ConnectionsRepresent, HubRepresents, hub_store, Connections, World}
use Rattle.hub.specs.declared.event.Event.{Event}
use Rattle.hub.specs.declared.hub.Hub.{Hub}
use Rattle.server.specs.Accepted.{AreServed, Connection, IsServed, LeavesBetween, numbered}
use Rattle.server.specs.Arriving.{HandsOut}
use Rattle.server.specs.Numbers.{connection_at, connection_of}
use Rattle.server.specs.declared.peer.Peer.{Peer}
use Rattle.server.specs.declared.peers.Peers.{Peers}

-- Which faults end serving, and what it leaves of the store. Running out of memory never ends it, and a failure of the
-- storage only if the store failed. From a hub that represents a world, whose storage has returned what was written and
-- could be asked, no other fault ends it than a failure of the storage. The storage can still be asked, unless it
-- failed.
pub record EndsBy {A S : Type 0} (seen : S → Kept) (r : Result A Fault) (old new : Hub S) : Type 0 where
  pub skipped : IfErr r (λ fault. fault ≢ Memory)
  pub storage : r ≡ Err Storage → IsTrue (hub_store seen new).has_failed
  pub stays_open : IsHonestStore (hub_store seen new) → MatchResult r
      (λ _. (hub_store seen new).is_open ≡ (hub_store seen old).is_open)
      (λ fault. fault ≢ Storage → (hub_store seen new).is_open ≡ (hub_store seen old).is_open)
  pub wants : IsHonestStore (hub_store seen new) → IsTrue (hub_store seen old).is_open
      → (w : World) → HubRepresents seen old w → IfErr r (λ fault. fault ≡ Storage)

-- One turn of a peer: the steps are its own, and it was served by them. It keeps its number. No other connection
-- changes.
pub record TurnsPeer {A S R W : Type 0} (seen : S → Kept) (left : R → Option (List ℕ)) (written : W → Option (List ℕ))
    (Draws : List Event → Type 0) (r : Result A Fault) (before after : Peer R W) (old new : Hub S) : Type 0 where
  pub steps : List Step
  pub between : StepsBetween seen Draws steps old new
  pub own : All (IsStepOf (number_of before.link)) steps
  pub served : IsServed left written steps (connection_of before) (connection_of after)
  pub same : number_of after.link ≡ number_of before.link
  pub others : (all : Connections) → ConnectionsRepresent old all → LeavesOthers (number_of before.link) all new
  pub ends : EndsBy seen r old new

-- These were accepted, and connections were served: there is one list of steps over all of them.
pub record ServesPeers {A S R W : Type 0} (seen : S → Kept) (left : R → Option (List ℕ))
    (written : W → Option (List ℕ)) (Draws : List Event → Type 0) (accepted : List (R × W)) (r : Result A Fault)
    (before after : Peers R W) (old new : Hub S) : Type 0 where
  pub steps : List Step
  pub between : StepsBetween seen Draws steps old new
  pub served : AreServed left written accepted steps before.next (connection_at before.peers) after.next
      (connection_at after.peers)
  pub first : after.first ≡ before.first
  pub others : (all : Connections) → ConnectionsRepresent old all
      → LeavesBetween before.first after.next all new
  pub ends : EndsBy seen r old new

-- all stay as they are
pub record Stand {R W : Type 0} (before after : Peers R W) : Type 0 where
  pub first : after.first ≡ before.first
  pub next : after.next ≡ before.next
  pub same : (k : ℕ) → connection_at after.peers k ≡ connection_at before.peers k

-- a listener handed these out, and the same
abbrev pub ServesAt : {A S L R W : Type 0} → (L → (R × W) → L → Type 0) → (S → Kept) → (R → Option (List ℕ))
    → (W → Option (List ℕ)) → (List Event → Type 0) → Result A Fault → Option L → Option L → Peers R W → Peers R W
    → Hub S → Hub S → Type 0
ServesAt {R = R} {W = W} may_accept seen left written Draws r listener listener_after before after old new =
    (accepted : List (R × W)) × HandsOut may_accept listener listener_after accepted
    × ServesPeers seen left written Draws accepted r before after old new

-- The listener handed these out, in their order, and each was served by its own steps of one list. Its number is one of
-- its own, which the hub had not seen; no other number has a step. From each world that the hub represented, what they
-- asked keeps the laws over every run: all that they asked, where it is known what they left; and what was asked before
-- a fault, whether that is known or not.
pub record ServesConnections {S L R W : Type 0} (may_accept : L → (R × W) → L → Type 0) (seen : S → Kept)
    (left : R → Option (List ℕ)) (written : W → Option (List ℕ)) (Draws : List Event → Type 0) (listener : Option L)
    (old new : Hub S) : Type 0 where
  pub accepted : List (R × W)
  pub listener_after : Option L
  pub hands_out : HandsOut may_accept listener listener_after accepted
  pub first : ℕ
  pub unseen : (all : Connections) → ConnectionsRepresent old all → (k : ℕ) (o : Connection R W)
      → numbered first accepted k ≡ Some o → all k ≡ None
  pub steps : List Step
  pub between : StepsBetween seen Draws steps old new
  pub each : (k : ℕ) (o : Connection R W) → numbered first accepted k ≡ Some o
      → (n : Connection R W) × IsServed left written (steps_of k steps) o n
  pub none : (k : ℕ) → numbered first accepted k ≡ None → steps_of k steps ≡ []
  pub all : IsHonestStore (hub_store seen new) → AreKnown steps (hub_store seen new) → (w : World)
      → HubRepresents seen old w → (from : StepsFrom seen w steps new) × KeepsLaws w.broker from.history
  pub before : IsHonestStore (hub_store seen new) → (w : World) → HubRepresents seen old w
      → (taken : StepsTaken w (before_fault steps)) × KeepsLaws w.broker taken.history

-- none is open
abbrev pub IsEmpty : {R W : Type 0} → Peers R W → Type 0
IsEmpty peers = (k : ℕ) → get nat_cmp peers.peers k ≡ None
