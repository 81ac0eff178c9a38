-- What was written before a fault.
use Rattle.std.proofs.Common.{◌≡◌, ◌≢◌, ◌⊎◌, inl, inr, ℕ, List, [], Option, Some, None, refl, sym, subst, ◌∙◌}
use Rattle.std.proofs.KnownBytes.{Appends-nil}
use Rattle.records.specs.Words.{Kept, IsHonestStore}
use Rattle.hub.specs.Words.{HubRepresents, hub_store, bytes_of, World}
use Rattle.hub.specs.declared.event.Event.{Event}
use Rattle.hub.specs.declared.hub.Hub.{Hub}
use Rattle.replay.specs.Lines.{Told}
use Rattle.replay.specs.Replays.{StopsRun, StoppedRun, StoppedFrom, Stopped, started}
use Rattle.replay.specs.declared.replaying.Exit.{Exit}
use Rattle.replay.specs.declared.replaying.Exit.TheVariants.{Done, Faulted, BadLine}

-- no event was run, and nothing was written
from_none : (w : World) (events : List Event) (known : Option (List ℕ)) (exit : Exit)
    → StoppedFrom w events known known exit
from_none w events known Done = tt
from_none w events known (BadLine line) = tt
from_none w events known (Faulted number) =
    λ other. (0, record { replies = []; after = _; run = refl; written = Appends-nil known })

-- nothing was written, however it ended
pub stopped_none : (t : Option Told) (known : Option (List ℕ)) (exit : Exit) → Stopped t known known exit
stopped_none None known Done = tt
stopped_none None known (BadLine line) = tt
stopped_none None known (Faulted number) = λ other. Appends-nil known
stopped_none (Some t) known exit = from_none (started t.start) t.events known exit

-- the run stopped and its replies were written, or a write failed
pub stopped_of : {S : Type 0} (seen : S → Kept) (events : List Event) (before after : Hub S) (old new : Option (List ℕ))
    (result exit : Exit) (number : ℕ) (A B : Type 0) → ((result ≡ exit) × A) ⊎ ((result ≡ Faulted 6) × B)
    → exit ≡ Faulted number
    → (A → StopsRun seen events before after old new number) → StoppedRun seen events before after old new result
stopped_of seen events before after old new result exit number A B (inl p) is wrote =
    subst (StoppedRun seen events before after old new) (sym (p.0 ∙ is)) (λ (other : number ≢ 6). wrote p.1)
stopped_of seen events before after old new result exit number A B (inr p) is wrote =
    subst (StoppedRun seen events before after old new) (sym p.0) (λ (other : 6 ≢ 6). absurd (other refl))

-- from a world that the hub represented, some number of the first events were answered
pub stopped_from : {S : Type 0} (seen : S → Kept) (w : World) (events : List Event) (before after : Hub S)
    (old new : Option (List ℕ))
    (exit : Exit) → IsHonestStore (hub_store seen after) → HubRepresents seen before w
    → StoppedRun seen events before after old new exit
    → StoppedFrom w events old new exit
stopped_from seen w events before after old new Done honest is stopped = tt
stopped_from seen w events before after old new (BadLine line) honest is stopped = tt
stopped_from seen w events before after old new (Faulted number) honest is stopped = λ other.
    let s = stopped other in
    let run = s.run honest w is in
    (s.place, record { replies = bytes_of s.replies; after = run.0; run = run.1; written = s.written })
