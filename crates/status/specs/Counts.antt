-- What a server counts (this project's definition).
use Rattle.std.specs.Prelude.{◌+◌, ◌-◌, ◌^◌, ◌==◌, ◌&&◌, ◌∷◌, if◌then◌else◌, ℕ, List, [], Option, Some, None}
use Rattle.std.specs.Prelude.{nat_le, nat_lt, fold, take, replicate, count_by, position, slice_index, slice_set}
use Rattle.status.specs.declared.counters.Closing.{Closing}
use Rattle.status.specs.declared.counters.Closing.TheVariants.{Ended, Idle, Room, Silent, Slow, Stopped}
use Rattle.status.specs.declared.counters.Closing.TheVariants as closing
use Rattle.status.specs.declared.counters.Kind.{Kind}
use Rattle.status.specs.declared.counters.Kind.TheVariants as kind

-- the sum; a counter that cannot hold it stays as it is
abbrev pub plus : ℕ → ℕ → ℕ
plus a b = if nat_lt (a + b) (2 ^ 64) then a + b else a

-- the counts, with one more at this place
abbrev pub one_more_at : ℕ → List ℕ → List ℕ
one_more_at place counts = slice_set counts place (plus (slice_index counts place) 1)

-- ---- how long requests took

-- How many took at most so long as a bound and longer than the bound before, for each bound and beyond the last; and
-- how long all took, in microseconds.
pub record DurationCounts : Type 0 where
  pub counts : List ℕ
  pub micros : ℕ

-- the bounds of the buckets, in microseconds
abbrev pub bounds : List ℕ
bounds =
    500 ∷ 1000 ∷ 2500 ∷ 5000 ∷ 10000 ∷ 25000 ∷ 50000 ∷ 100000 ∷ 250000 ∷ 500000 ∷ 1000000 ∷ 2500000 ∷ 5000000
    ∷ 10000000 ∷ []

-- where it is counted what took so many microseconds: behind the bounds that it exceeds
abbrev pub place_of : ℕ → ℕ
place_of micros = count_by (λ bound. nat_lt bound micros) bounds

-- one more request, which took so many microseconds
abbrev pub observed : ℕ → DurationCounts → DurationCounts
observed micros d =
    record { counts = one_more_at (place_of micros) d.counts; micros = plus d.micros micros }

-- how many took at most so long as the bound with this number, counted from 1
abbrev pub up_to : ℕ → DurationCounts → ℕ
up_to bound d = fold plus 0 (take bound d.counts)

abbrev pub no_durations : DurationCounts
no_durations = record { counts = replicate 15 0; micros = 0 }

-- ---- all counts

-- Connections that were accepted and, by reason, closed; requests by status; how long they took, by kind; faults by
-- number; lines of the log that were dropped.
pub record Counts : Type 0 where
  pub accepted : ℕ
  pub closed : List ℕ
  pub requests : List ℕ
  pub reads : DurationCounts
  pub lists : DurationCounts
  pub writes : DurationCounts
  pub deletes : DurationCounts
  pub refused : DurationCounts
  pub faults : List ℕ
  pub dropped : ℕ

abbrev pub no_counts : Counts
no_counts =
    record {
      accepted = 0;
      closed = replicate 7 0;
      requests = replicate 12 0;
      reads = no_durations;
      lists = no_durations;
      writes = no_durations;
      deletes = no_durations;
      refused = no_durations;
      faults = replicate 7 0;
      dropped = 0;
    }

-- where a reason is counted
abbrev pub closing_place : Closing → ℕ
closing_place Ended = 0
closing_place Idle = 1
closing_place Room = 2
closing_place Silent = 3
closing_place Slow = 4
closing_place closing.Fault = 5
closing_place Stopped = 6

-- the statuses that are counted apart
abbrev pub statuses : List ℕ
statuses = 200 ∷ 204 ∷ 400 ∷ 403 ∷ 404 ∷ 405 ∷ 413 ∷ 431 ∷ 500 ∷ 501 ∷ []

-- where a place in that list is counted; all other statuses are counted behind that of none
abbrev pub listed_place : Option ℕ → ℕ
listed_place (Some place) = place
listed_place None = 11

-- where a status is counted, or that there is none
abbrev pub status_place : Option ℕ → ℕ
status_place None = 10
status_place (Some code) = listed_place (position (λ listed. listed == code) statuses)

-- where a fault is counted; all but the first six are counted at one place
abbrev pub fault_place : ℕ → ℕ
fault_place number = if nat_le 1 number && nat_le number 6 then number - 1 else 6

-- what is counted: a connection that was accepted, or closed; a request with its status, its kind and its
-- microseconds; a fault; lines that were dropped
pub data Event : Type 0 where
  accepted : Event
  closed : Closing → Event
  answered : Option ℕ → Kind → ℕ → Event
  faulted dropped : ℕ → Event

-- the counts, with a request of this kind that took so many microseconds
abbrev pub observed_as : Kind → ℕ → Counts → Counts
observed_as kind.Read micros c = record c { reads = observed micros c.reads }
observed_as kind.List micros c = record c { lists = observed micros c.lists }
observed_as kind.Write micros c = record c { writes = observed micros c.writes }
observed_as kind.Delete micros c = record c { deletes = observed micros c.deletes }
observed_as kind.Refused micros c = record c { refused = observed micros c.refused }

-- the counts after an event
abbrev pub counted : Counts → Event → Counts
counted c accepted = record c { accepted = plus c.accepted 1 }
counted c (closed why) = record c { closed = one_more_at (closing_place why) c.closed }
counted c (answered status kind micros) =
    observed_as kind micros (record c { requests = one_more_at (status_place status) c.requests })
counted c (faulted number) = record c { faults = one_more_at (fault_place number) c.faults }
counted c (dropped lines) = record c { dropped = plus c.dropped lines }
