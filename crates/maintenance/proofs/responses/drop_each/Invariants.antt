use Rattle.std.proofs.Common.{◌≡◌, None, false, drop, map}
use Rattle.broker_model.specs.Words.{Broker, IsHonest, GoesOn}
use Rattle.broker_rows.specs.Words.{Represents}
use Rattle.maintenance.specs.Maintained.{dropped_each}
use Rattle.maintenance.proofs.Listed.{key_of}
use Rattle.maintenance.proofs.responses.drop_each.Given as goal

-- to drop what is left leads to the same broker
abbrev pub invariant-loop-entry : goal.invariant-loop-entry
invariant-loop-entry g l =
    let seen = g.T.RecordsTx.seen in
    record {
      told : IsHonest (seen l.tx) → (b : Broker) → Represents None (seen l.initial.tx).rows b
          → (c : Broker) × Represents None (seen l.tx).rows c
          × (dropped_each (map key_of (drop l.entry-index l.entries)) c ≡ dropped_each (map key_of l.entries) b);
      goes_on : GoesOn (seen l.initial.tx) (seen l.tx) false;
    }
