-- What a replay answers (this project's definition).
use Rattle.std.specs.Prelude.{◌≡◌, ◌≢◌, ◌⊎◌, ◌+◌, ◌<◌, if◌then◌else◌, ℕ, List, [], Option, Some, None, Vec, IsTrue, ⊤}
use Rattle.records.specs.Words.{length, take, Appends, concat, fault_number, first_broker, token_word, accessor_word}
use Rattle.records.specs.Words.{Fault, Kept, IsHonestStore}
use Rattle.std.specs.declared.alloc.Global.{Global}
use Rattle.hub.specs.Words.{ConnectionsRepresent, HubRepresents, hub_store, bytes_of, HadNoRoom, StopsAt, StopsTurns}
use Rattle.hub.specs.Words.{Connections, World, Run, new_world}
use Rattle.hub.specs.declared.event.Event.{Event}
use Rattle.hub.specs.declared.hub.Hub.{Hub}
use Rattle.replay.specs.Lines.{Told}
use Rattle.replay.specs.declared.lines.Start.{Start}
use Rattle.replay.specs.declared.replaying.Exit.{Exit}
use Rattle.replay.specs.declared.replaying.Exit.TheVariants.{Done, Faulted, BadLine}
use Rattle.replay.specs.declared.script.Script.{Script}

-- nothing failed
abbrev pub IsUnfaulted : Exit → Type 0
IsUnfaulted Done = ⊤
IsUnfaulted (BadLine line) = ⊤
IsUnfaulted (Faulted number) = ⊥

-- what a script says
abbrev pub told : Script → Told
told script = record { start = script.start; events = script.events.items; is_cut = script.is_cut }

-- how the lines end a replay if nothing fails: lines are counted from 1, the start among them
abbrev pub exit_of : Told → Exit
exit_of t = if t.is_cut then BadLine (length t.events + 2) else Done

-- the events were answered from the world, and the replies were written
pub record Ran (before : World) (events : List Event) (old new : Option (List ℕ)) : Type 0 where
  pub replies : List (List ℕ)
  pub after : World
  pub run : Run before events replies after
  pub written : Appends old new (concat replies)

-- the world of the first broker of a start, with no connection seen
abbrev pub started : Start → World
started start =
    new_world (first_broker start.moment (token_word start.words) (accessor_word start.words))

-- the events were answered from the first broker of the start, with no connection seen, and the replies were written
abbrev pub Replayed : Start → List Event → Option (List ℕ) → Option (List ℕ) → Type 0
Replayed start = Ran (started start)

-- what the lines say was replayed; nothing was written if the first is bad
abbrev pub Replays : Option Told → Option (List ℕ) → Option (List ℕ) → Exit → Type 0
Replays None old new exit = (exit ≡ BadLine 1) × Appends old new []
Replays (Some t) old new exit = (exit ≡ exit_of t) × Replayed t.start t.events old new

-- ---- after a fault

-- A run of the events stopped at the event of the place, or found no room for the replies: of the hub before and after
-- it, `run` says so. The replies to the events before that place were written whole, and nothing else.
pub record StopsRun {S : Type 0} (seen : S → Kept) (events : List Event) (before after : Hub S)
    (old new : Option (List ℕ)) (number : ℕ) : Type 0 where
  pub place : ℕ
  pub replies : List (Vec ℕ Global)
  pub fault : Fault
  pub number_is : number ≡ fault_number fault
  pub written : Appends old new (concat (bytes_of replies))
  pub run : IsHonestStore (hub_store seen after) → (w : World) → HubRepresents seen before w
      → (mid : World) × Run w (take place events) (bytes_of replies) mid
  -- what the hub represents, as long as the storage can still be asked
  pub stopped : HadNoRoom place replies fault before after
      ⊎ ((place < length events) × (IsHonestStore (hub_store seen after) → IsTrue (hub_store seen after).is_open
      → (w : World) → HubRepresents seen before w → StopsAt seen w events place (bytes_of replies) fault after))
  -- which connections it represents, whatever the rows are
  pub turns : (all : Connections) → ConnectionsRepresent before all
      → HadNoRoom place replies fault before after ⊎ StopsTurns all events place (bytes_of replies) fault after

-- the same of how a script ended; after a failed write (6) it is left open what was written
abbrev pub StoppedRun : {S : Type 0} → (S → Kept) → List Event → Hub S → Hub S → Option (List ℕ) → Option (List ℕ)
    → Exit → Type 0
StoppedRun seen events before after old new (Faulted number) =
    number ≢ 6 → StopsRun seen events before after old new number
StoppedRun seen events before after old new _ = ⊤

-- The same where the hub is lost: the replies to some number of the first events were written whole, and nothing else.
-- Nothing that is left tells how many there were before the fault.
abbrev pub StoppedFrom : World → List Event → Option (List ℕ) → Option (List ℕ) → Exit → Type 0
StoppedFrom before events old new (Faulted number) =
    number ≢ 6 → (count : ℕ) × Ran before (take count events) old new
StoppedFrom before events old new _ = ⊤

-- the same of the lines of an input; nothing was written if the start is bad
abbrev pub Stopped : Option Told → Option (List ℕ) → Option (List ℕ) → Exit → Type 0
Stopped None old new (Faulted number) = number ≢ 6 → Appends old new []
Stopped None old new _ = ⊤
Stopped (Some t) old new exit = StoppedFrom (started t.start) t.events old new exit
