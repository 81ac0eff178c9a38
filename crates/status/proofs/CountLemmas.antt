-- Counts never fall, and buckets grow.
use Rattle.std.proofs.Common.{◌≤◌, ℕ, List, [], ◌∷◌}
use Rattle.std.proofs.Common.{fold, take, arith, le_refl, zero, suc, add-one}
use Rattle.std.proofs.lemmas.Bool.Decides.{nat_tests}
use Rattle.status.specs.Counts.{DurationCounts, accepted, answered, closed, dropped, faulted}
use Rattle.status.specs.Counts.{observed, one_more_at, place_of, plus, closing_place, fault_place, status_place}
use Rattle.status.specs.declared.counters.Kind.TheVariants as kind
use Rattle.status.specs.Laws.{BucketsGrow, DurationsNeverFall, NoneFalls, NothingFalls}

-- a counter to which something is added does not fall
pub plus_grows : (a b : ℕ) → a ≤ plus a b
plus_grows a b = grind (arith, nat_tests)

-- no count falls where one more is counted
pub one_more_grows : (place : ℕ) (counts : List ℕ) → NoneFalls counts (one_more_at place counts)
one_more_grows zero [] k = le_refl _
one_more_grows (suc p) [] k = le_refl _
one_more_grows zero (n ∷ ns) zero = plus_grows n 1
one_more_grows zero (n ∷ ns) (suc k) = le_refl _
one_more_grows (suc p) (n ∷ ns) zero = le_refl _
one_more_grows (suc p) (n ∷ ns) (suc k) = one_more_grows p ns k

-- nothing falls where nothing is counted
none_falls : (counts : List ℕ) → NoneFalls counts counts
none_falls counts k = le_refl _

same_durations : (d : DurationCounts) → DurationsNeverFall d d
same_durations d = record { counts = none_falls d.counts; micros = le_refl _ }

observed_grows : (micros : ℕ) (d : DurationCounts) → DurationsNeverFall d (observed micros d)
observed_grows micros d =
    record { counts = one_more_grows (place_of micros) d.counts; micros = plus_grows d.micros micros }

-- whatever is counted, nothing falls
pub counted_grows : NothingFalls
counted_grows c accepted = record {
  accepted = plus_grows c.accepted 1;
  closed = none_falls c.closed;
  requests = none_falls c.requests;
  reads = same_durations c.reads;
  lists = same_durations c.lists;
  writes = same_durations c.writes;
  deletes = same_durations c.deletes;
  refused = same_durations c.refused;
  faults = none_falls c.faults;
  dropped = le_refl _;
}
counted_grows c (closed why) = record {
  accepted = le_refl _;
  closed = one_more_grows (closing_place why) c.closed;
  requests = none_falls c.requests;
  reads = same_durations c.reads;
  lists = same_durations c.lists;
  writes = same_durations c.writes;
  deletes = same_durations c.deletes;
  refused = same_durations c.refused;
  faults = none_falls c.faults;
  dropped = le_refl _;
}
counted_grows c (faulted number) = record {
  accepted = le_refl _;
  closed = none_falls c.closed;
  requests = none_falls c.requests;
  reads = same_durations c.reads;
  lists = same_durations c.lists;
  writes = same_durations c.writes;
  deletes = same_durations c.deletes;
  refused = same_durations c.refused;
  faults = one_more_grows (fault_place number) c.faults;
  dropped = le_refl _;
}
counted_grows c (dropped lines) = record {
  accepted = le_refl _;
  closed = none_falls c.closed;
  requests = none_falls c.requests;
  reads = same_durations c.reads;
  lists = same_durations c.lists;
  writes = same_durations c.writes;
  deletes = same_durations c.deletes;
  refused = same_durations c.refused;
  faults = none_falls c.faults;
  dropped = plus_grows c.dropped lines;
}
counted_grows c (answered status kind.Read micros) = record {
  accepted = le_refl _;
  closed = none_falls c.closed;
  requests = one_more_grows (status_place status) c.requests;
  reads = observed_grows micros c.reads;
  lists = same_durations c.lists;
  writes = same_durations c.writes;
  deletes = same_durations c.deletes;
  refused = same_durations c.refused;
  faults = none_falls c.faults;
  dropped = le_refl _;
}
counted_grows c (answered status kind.List micros) = record {
  accepted = le_refl _;
  closed = none_falls c.closed;
  requests = one_more_grows (status_place status) c.requests;
  reads = same_durations c.reads;
  lists = observed_grows micros c.lists;
  writes = same_durations c.writes;
  deletes = same_durations c.deletes;
  refused = same_durations c.refused;
  faults = none_falls c.faults;
  dropped = le_refl _;
}
counted_grows c (answered status kind.Write micros) = record {
  accepted = le_refl _;
  closed = none_falls c.closed;
  requests = one_more_grows (status_place status) c.requests;
  reads = same_durations c.reads;
  lists = same_durations c.lists;
  writes = observed_grows micros c.writes;
  deletes = same_durations c.deletes;
  refused = same_durations c.refused;
  faults = none_falls c.faults;
  dropped = le_refl _;
}
counted_grows c (answered status kind.Delete micros) = record {
  accepted = le_refl _;
  closed = none_falls c.closed;
  requests = one_more_grows (status_place status) c.requests;
  reads = same_durations c.reads;
  lists = same_durations c.lists;
  writes = same_durations c.writes;
  deletes = observed_grows micros c.deletes;
  refused = same_durations c.refused;
  faults = none_falls c.faults;
  dropped = le_refl _;
}
counted_grows c (answered status kind.Refused micros) = record {
  accepted = le_refl _;
  closed = none_falls c.closed;
  requests = one_more_grows (status_place status) c.requests;
  reads = same_durations c.reads;
  lists = same_durations c.lists;
  writes = same_durations c.writes;
  deletes = same_durations c.deletes;
  refused = observed_grows micros c.refused;
  faults = none_falls c.faults;
  dropped = le_refl _;
}

-- a bucket has counted at least as many as the one before it
pub sums_grow : (a : ℕ) (counts : List ℕ) (bound : ℕ)
    → fold plus a (take bound counts) ≤ fold plus a (take (suc bound) counts)
sums_grow a [] zero = le_refl _
sums_grow a [] (suc b) = le_refl _
sums_grow a (n ∷ ns) zero = plus_grows a n
sums_grow a (n ∷ ns) (suc b) = sums_grow (plus a n) ns b

pub buckets_grow : BucketsGrow
buckets_grow d bound = rw add-one (sums_grow 0 d.counts bound)
