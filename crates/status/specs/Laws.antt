-- Laws of the counts. Each is a clause of the function of `src/laws.rt`.
use Rattle.std.specs.Prelude.{◌+◌, ◌≤◌, ℕ, List, slice_index}
use Rattle.status.specs.Counts.{Counts, counted, DurationCounts, Event, up_to}

-- none of the numbers is less than it was
abbrev pub NoneFalls : List ℕ → List ℕ → Type 0
NoneFalls old new = (place : ℕ) → slice_index old place ≤ slice_index new place

-- no number of these durations is less than it was
pub record DurationsNeverFall (old new : DurationCounts) : Type 0 where
  pub counts : NoneFalls old.counts new.counts
  pub micros : old.micros ≤ new.micros

-- no count is less than it was
pub record NeverFalls (old new : Counts) : Type 0 where
  pub accepted : old.accepted ≤ new.accepted
  pub closed : NoneFalls old.closed new.closed
  pub requests : NoneFalls old.requests new.requests
  pub reads : DurationsNeverFall old.reads new.reads
  pub lists : DurationsNeverFall old.lists new.lists
  pub writes : DurationsNeverFall old.writes new.writes
  pub deletes : DurationsNeverFall old.deletes new.deletes
  pub refused : DurationsNeverFall old.refused new.refused
  pub faults : NoneFalls old.faults new.faults
  pub dropped : old.dropped ≤ new.dropped

-- whatever is counted, no count falls
abbrev pub NothingFalls : Type 0
NothingFalls = (c : Counts) (e : Event) → NeverFalls c (counted c e)

-- a bucket has counted at least as many as the one before it
abbrev pub BucketsGrow : Type 0
BucketsGrow = (d : DurationCounts) (bound : ℕ) → up_to bound d ≤ up_to (bound + 1) d
