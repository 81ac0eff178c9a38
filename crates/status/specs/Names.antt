-- The families of metrics of a server (this project's definition): their names, what they mean, and their types. Units
-- and endings are those of Prometheus' documentation, "Metric and label naming".
use Rattle.std.specs.Prelude.{codes}
use Rattle.status.specs.declared.family.Metric.{Metric}
use Rattle.status.specs.declared.family.Metric.TheVariants.{Counter, Gauge, Histogram}
use Rattle.status.specs.declared.names.Name.{Name}
use Rattle.status.specs.declared.names.Name.TheVariants as name
use Rattle.status.specs.Samples.{Text}

-- the name
unfoldable pub name_text : Name → Text
name_text name.BuildInfo = codes "dehluvima_build_info"
name_text name.StartTime = codes "process_start_time_seconds"
name_text name.ResidentMemory = codes "process_resident_memory_bytes"
name_text name.ClockAhead = codes "dehluvima_clock_ahead_seconds"
name_text name.LinesDropped = codes "dehluvima_log_lines_dropped_total"
name_text name.Requests = codes "dehluvima_requests_total"
name_text name.RequestSeconds = codes "dehluvima_request_seconds"
name_text name.Faults = codes "dehluvima_faults_total"
name_text name.Connections = codes "dehluvima_connections"
name_text name.ConnectionsLimit = codes "dehluvima_connections_limit"
name_text name.ConnectionsAccepted = codes "dehluvima_connections_accepted_total"
name_text name.ConnectionsClosed = codes "dehluvima_connections_closed_total"
name_text name.DatabaseBytes = codes "dehluvima_database_bytes"
name_text name.DatabaseLogBytes = codes "dehluvima_database_log_bytes"
name_text name.Commits = codes "dehluvima_commits_total"
name_text name.CommitSeconds = codes "dehluvima_commit_seconds_total"
name_text name.TokensAtStart = codes "dehluvima_tokens_at_start"
name_text name.SecretsAtStart = codes "dehluvima_secrets_at_start"
name_text name.ResponsesAtStart = codes "dehluvima_responses_at_start"

-- what the family means
unfoldable pub help_text : Name → Text
help_text name.BuildInfo = codes "The version of the program."
help_text name.StartTime = codes "When the program started, in seconds since 1970."
help_text name.ResidentMemory = codes "Bytes of memory that the program has."
help_text name.ClockAhead = codes "Seconds by which the clock of the broker is ahead of the system's."
help_text name.LinesDropped = codes "Lines of the log that were dropped."
help_text name.Requests = codes "Requests, by the status of the reply; none after a fault."
help_text name.RequestSeconds = codes "Seconds from a request to its reply, by what it asks."
help_text name.Faults = codes "Faults, by their numbers."
help_text name.Connections = codes "Connections that are open."
help_text name.ConnectionsLimit = codes "Connections that may be open at once."
help_text name.ConnectionsAccepted = codes "Connections that were accepted."
help_text name.ConnectionsClosed = codes "Connections that were closed, by the reason."
help_text name.DatabaseBytes = codes "Bytes of the database."
help_text name.DatabaseLogBytes = codes "Bytes of the log of the database."
help_text name.Commits = codes "Transactions that were committed, each with a sync of the log."
help_text name.CommitSeconds = codes "Seconds that commits took, with their syncs."
help_text name.TokensAtStart = codes "Tokens at the start."
help_text name.SecretsAtStart = codes "Secrets at the start."
help_text name.ResponsesAtStart = codes "Wrapped responses that waited at the start."

-- the type of the family
unfoldable pub metric_of : Name → Metric
metric_of name.BuildInfo = Gauge
metric_of name.StartTime = Gauge
metric_of name.ResidentMemory = Gauge
metric_of name.ClockAhead = Gauge
metric_of name.LinesDropped = Counter
metric_of name.Requests = Counter
metric_of name.RequestSeconds = Histogram
metric_of name.Faults = Counter
metric_of name.Connections = Gauge
metric_of name.ConnectionsLimit = Gauge
metric_of name.ConnectionsAccepted = Counter
metric_of name.ConnectionsClosed = Counter
metric_of name.DatabaseBytes = Gauge
metric_of name.DatabaseLogBytes = Gauge
metric_of name.Commits = Counter
metric_of name.CommitSeconds = Counter
metric_of name.TokensAtStart = Gauge
metric_of name.SecretsAtStart = Gauge
metric_of name.ResponsesAtStart = Gauge
