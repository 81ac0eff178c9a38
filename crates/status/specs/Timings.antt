-- The samples of the histogram of seconds that requests took (Prometheus' documentation, "Metric types", histogram).
use Rattle.std.specs.Prelude.{◌∷◌, ◌++◌, ℕ, List, [], codes}
use Rattle.status.specs.declared.family.Labels.TheVariants.{One, Two}
use Rattle.status.specs.declared.family.Number.{Number}
use Rattle.status.specs.declared.family.Number.TheVariants.{Whole, Seconds}
use Rattle.status.specs.declared.family.Sample.{Sample}
use Rattle.status.specs.declared.family.Suffix.{Suffix}
use Rattle.status.specs.declared.family.Suffix.TheVariants.{Bucket, Sum, Count}
use Rattle.status.specs.Counts.{Counts, DurationCounts, up_to}
use Rattle.status.specs.Samples.{Text}

-- how many took at most so many seconds as `le` says, the bound with this number
abbrev pub bucket : Text → DurationCounts → Text → ℕ → Sample
bucket kind d le bound =
    record { suffix = Bucket; labels = Two (codes "kind", kind) (codes "le", le); number = Whole (up_to bound d) }

-- a number of all requests of one kind
abbrev pub total : Suffix → Text → Number → Sample
total suffix kind number = record { suffix = suffix; labels = One (codes "kind", kind); number = number }

-- the samples, and then how many took at most so long as each bound; without one, all
unfoldable pub with_buckets : List Sample → Text → DurationCounts → List Sample
with_buckets samples kind d =
    samples ++ bucket kind d (codes "0.0005") 1 ∷ [] ++ bucket kind d (codes "0.001") 2 ∷ []
    ++ bucket kind d (codes "0.0025") 3 ∷ [] ++ bucket kind d (codes "0.005") 4 ∷ []
    ++ bucket kind d (codes "0.01") 5 ∷ [] ++ bucket kind d (codes "0.025") 6 ∷ []
    ++ bucket kind d (codes "0.05") 7 ∷ [] ++ bucket kind d (codes "0.1") 8 ∷ []
    ++ bucket kind d (codes "0.25") 9 ∷ [] ++ bucket kind d (codes "0.5") 10 ∷ []
    ++ bucket kind d (codes "1") 11 ∷ [] ++ bucket kind d (codes "2.5") 12 ∷ []
    ++ bucket kind d (codes "5") 13 ∷ [] ++ bucket kind d (codes "10") 14 ∷ []
    ++ bucket kind d (codes "+Inf") 15 ∷ []

-- the samples, and then how long requests of one kind took in all, and how many there were
unfoldable pub with_totals : List Sample → Text → DurationCounts → List Sample
with_totals samples kind d =
    samples ++ total Sum kind (Seconds d.micros) ∷ [] ++ total Count kind (Whole (up_to 15 d)) ∷ []

-- the samples, and then those of requests of one kind
unfoldable pub with_timings : List Sample → Text → DurationCounts → List Sample
with_timings samples kind d = with_totals (with_buckets samples kind d) kind d

-- the samples of all kinds
unfoldable pub timings : Counts → List Sample
timings c =
    with_timings (with_timings (with_timings (with_timings (with_timings [] (codes "read") c.reads)
    (codes "list") c.lists) (codes "write") c.writes) (codes "delete") c.deletes) (codes "refused") c.refused
