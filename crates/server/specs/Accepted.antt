-- What connections that were accepted have read and sent, of one list of steps over all of them (this project's
-- definition).
use Rattle.std.specs.Prelude.{◌≡◌, ◌⊎◌, ◌<◌, ◌≤◌, ◌+◌, ◌∷◌, ◌++◌, ℕ, suc, Bool, true, false, List, [], length, cond}
use Rattle.std.specs.Prelude.{nat_eq, Option, None, Some}
use Rattle.std.specs.Io.KnownBytes.{Appends, Consumes}
use Rattle.std.specs.Option.{option_or}
use Rattle.hub.specs.Representing.{ConnectionsRepresent}
use Rattle.hub.specs.ServedConnection.{pieces_in}
use Rattle.hub.specs.Steps.{Step, fed_in, replies_in, steps_of}
use Rattle.hub.specs.Turning.{Passes}
use Rattle.hub.specs.World.{Connections}
use Rattle.hub.specs.declared.hub.Hub.{Hub}

-- ---- one connection

-- its two ends, the bytes of replies that were not sent on it, and whether what comes on it now is passed over
pub record Connection (R W : Type 0) : Type 0 where
  pub reader : R
  pub writer : W
  pub unsent : List ℕ
  pub ended : Bool

-- one that was just accepted
abbrev pub new_connection : {R W : Type 0} → R × W → Connection R W
new_connection ends = record { reader = ends.0; writer = ends.1; unsent = []; ended = false }

-- A connection was served by these steps of its own. What it read are the pieces of their events, and then what was
-- passed over; and what was not sent before, and then their replies, are what it sent, and then what is not sent now.
-- Something is passed over only once it has ended: then all was sent, and no more is fed or answered.
pub record IsServed {R W : Type 0} (left : R → Option (List ℕ)) (written : W → Option (List ℕ)) (own : List Step)
    (old new : Connection R W) : Type 0 where
  pub passed : List ℕ
  pub reads : Consumes (left old.reader) (left new.reader) (pieces_in (fed_in own) ++ passed)
  pub sends : Passes (Appends (written old.writer) (written new.writer)) old.unsent new.unsent (replies_in own)
  pub going : new.ended ≡ false → passed ≡ []
  pub sent : old.ended ≡ false → new.ended ≡ true → new.unsent ≡ []
  pub stays : old.ended ≡ true
      → (new.ended ≡ true) × (new.unsent ≡ old.unsent) × (fed_in own ≡ []) × (replies_in own ≡ [])

-- ---- many connections, by their numbers

-- those that were accepted, under the numbers from n on, in their order
abbrev pub numbered : {R W : Type 0} → ℕ → List (R × W) → ℕ → Option (Connection R W)
numbered n [] k = None
numbered n (ends ∷ more) k = cond (nat_eq k n) (Some (new_connection ends)) (numbered (suc n) more k)

-- those that were open, and those that were accepted
abbrev pub begun : {R W : Type 0} → (ℕ → Option (Connection R W)) → ℕ → List (R × W) → ℕ → Option (Connection R W)
begun before next accepted k = option_or (before k) (numbered next accepted k)

-- These were accepted, under the numbers from `next` on. Each connection was served by its own steps, and is now as
-- these left it, or closed. No other number has a step, or is open.
pub record AreServed {R W : Type 0} (left : R → Option (List ℕ)) (written : W → Option (List ℕ))
    (accepted : List (R × W)) (steps : List Step) (next : ℕ) (before : ℕ → Option (Connection R W)) (next_after : ℕ)
    (after : ℕ → Option (Connection R W)) : Type 0 where
  pub numbers : next_after ≡ next + length accepted
  pub each : (k : ℕ) (o : Connection R W) → begun before next accepted k ≡ Some o
      → (n : Connection R W) × IsServed left written (steps_of k steps) o n
      × ((after k ≡ Some n) ⊎ (after k ≡ None))
  pub none : (k : ℕ) → begun before next accepted k ≡ None → (steps_of k steps ≡ []) × (after k ≡ None)

-- no connection of the hub changes but those of the numbers from the first on, and below the next
pub record LeavesBetween {S : Type 0} (first next : ℕ) (all : Connections) (new : Hub S) : Type 0 where
  pub after : Connections
  pub represents : ConnectionsRepresent new after
  pub below : (k : ℕ) → k < first → after k ≡ all k
  pub above : (k : ℕ) → next ≤ k → after k ≡ all k
