-- The families of metrics of a server (this project's definition): what it counts, and its figures. A number that is
-- not known has no sample.
use Rattle.std.specs.Prelude.{◌∷◌, ℕ, List, [], Option, Some, codes, option_map, slice_index}
use Rattle.status.specs.declared.family.Number.TheVariants.{Whole, Seconds}
use Rattle.status.specs.declared.family.Sample.{Sample}
use Rattle.status.specs.declared.figures.Figures.{Figures}
use Rattle.status.specs.declared.names.Name.{Name}
use Rattle.status.specs.declared.names.Name.TheVariants as name
use Rattle.status.specs.Counts.{Counts}
use Rattle.status.specs.Samples.{Text, Family, family, labelled, known}
use Rattle.status.specs.Timings.{timings}

-- a count, with a label
abbrev pub row : Text → Text → List ℕ → ℕ → Sample
row name value counts place = labelled name value (Whole (slice_index counts place))

-- a family of one whole number, if it is known
abbrev pub single : Name → Option ℕ → Family
single name number = family name (known (option_map Whole number))

-- a family of one number of microseconds, if it is known
abbrev pub single_time : Name → Option ℕ → Family
single_time name micros = family name (known (option_map Seconds micros))

-- ---- requests

-- requests by status
unfoldable pub request_rows : List ℕ → List Sample
request_rows c =
    row (codes "status") (codes "200") c 0 ∷ row (codes "status") (codes "204") c 1
    ∷ row (codes "status") (codes "400") c 2 ∷ row (codes "status") (codes "403") c 3
    ∷ row (codes "status") (codes "404") c 4 ∷ row (codes "status") (codes "405") c 5
    ∷ row (codes "status") (codes "413") c 6 ∷ row (codes "status") (codes "431") c 7
    ∷ row (codes "status") (codes "500") c 8 ∷ row (codes "status") (codes "501") c 9
    ∷ row (codes "status") (codes "none") c 10 ∷ row (codes "status") (codes "other") c 11 ∷ []

-- faults by number
unfoldable pub fault_rows : List ℕ → List Sample
fault_rows c =
    row (codes "fault") (codes "1") c 0 ∷ row (codes "fault") (codes "2") c 1 ∷ row (codes "fault") (codes "3") c 2
    ∷ row (codes "fault") (codes "4") c 3 ∷ row (codes "fault") (codes "5") c 4 ∷ row (codes "fault") (codes "6") c 5
    ∷ row (codes "fault") (codes "other") c 6 ∷ []

unfoldable pub request_families : Counts → List Family
request_families c =
    family name.Requests (request_rows c.requests)
    ∷ family name.RequestSeconds (timings c)
    ∷ family name.Faults (fault_rows c.faults)
    ∷ []

-- ---- connections

-- connections that were closed, by reason
unfoldable pub closing_rows : List ℕ → List Sample
closing_rows c =
    row (codes "reason") (codes "ended") c 0 ∷ row (codes "reason") (codes "idle") c 1
    ∷ row (codes "reason") (codes "room") c 2 ∷ row (codes "reason") (codes "silent") c 3
    ∷ row (codes "reason") (codes "slow") c 4 ∷ row (codes "reason") (codes "fault") c 5
    ∷ row (codes "reason") (codes "stopped") c 6 ∷ []

unfoldable pub connection_families : Counts → Figures → List Family
connection_families c f =
    single name.Connections (Some f.connections)
    ∷ single name.ConnectionsLimit (Some f.at_once)
    ∷ single name.ConnectionsAccepted (Some c.accepted)
    ∷ family name.ConnectionsClosed (closing_rows c.closed)
    ∷ []

-- ---- the store

unfoldable pub file_families : Figures → List Family
file_families f =
    single name.DatabaseBytes f.database_bytes
    ∷ single name.DatabaseLogBytes f.log_bytes
    ∷ single name.Commits (option_map (λ t. t.times) f.commits)
    ∷ single_time name.CommitSeconds (option_map (λ t. t.micros) f.commits)
    ∷ []

unfoldable pub start_families : Figures → List Family
start_families f =
    single name.TokensAtStart (option_map (λ s. s.tokens) f.at_start)
    ∷ single name.SecretsAtStart (option_map (λ s. s.secrets) f.at_start)
    ∷ single name.ResponsesAtStart (option_map (λ s. s.responses) f.at_start)
    ∷ []

-- ---- the program

-- the version, as a label
unfoldable pub version_family : Figures → Family
version_family f = family name.BuildInfo (labelled (codes "version") f.version.now (Whole 1) ∷ [])

unfoldable pub program_families : Counts → Figures → List Family
program_families c f =
    version_family f
    ∷ single name.StartTime (Some f.started)
    ∷ single name.ResidentMemory f.resident_bytes
    ∷ single name.ClockAhead f.clock_ahead
    ∷ single name.LinesDropped (Some c.dropped)
    ∷ []

-- all families, in groups
abbrev pub families : Counts → Figures → List (List Family)
families c f =
    request_families c ∷ connection_families c f ∷ file_families f ∷ start_families f ∷ program_families c f ∷ []
