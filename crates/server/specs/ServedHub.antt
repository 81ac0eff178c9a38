-- What serving connections leaves of the hub, and which faults end it (this project's definition).
use Rattle.std.specs.Prelude.{◌≡◌, ◌≢◌, ℕ, Bool, true, false}
use Rattle.records.specs.Words.{None, Memory, Storage, Damaged, BadStart}
use Rattle.hub.specs.Words.{ConnectionsRepresent, Connections}
use Rattle.hub.specs.declared.hub.Hub.{Hub}
use Rattle.hub.specs.declared.serve.ConnectionFault.{ConnectionFault}
use Rattle.hub.specs.declared.serve.ConnectionFault.TheVariants.{Broker, Read, Write}

-- whether the others are served on after this fault of one: running out of memory, reading and writing (1, 5, 6)
abbrev pub is_skipped : ConnectionFault → Bool
is_skipped (Broker Memory) = true
is_skipped (Broker Storage) = false
is_skipped (Broker Damaged) = false
is_skipped (Broker BadStart) = false
is_skipped Read = true
is_skipped Write = true

-- no connection that was seen changes
pub record LeavesSeen {S : Type 0} (all : Connections) (new : Hub S) : Type 0 where
  pub after : Connections
  pub represents : ConnectionsRepresent new after
  pub seen : (k : ℕ) → all k ≢ None → after k ≡ all k
