use Rattle.std.proofs.Common.{◌≡◌, None, false, drop}
use Rattle.broker_model.specs.Words.{Broker, IsHonest, GoesOn}
use Rattle.broker_rows.specs.Words.{Represents}
use Rattle.maintenance.specs.Maintained.{revoked_each}
use Rattle.maintenance.proofs.revoking.revoke_each.Given as goal

-- to revoke what is left leads to the same broker
abbrev pub invariant-loop-token : goal.invariant-loop-token
invariant-loop-token g l =
    let seen = g.T.RecordsTx.seen in
    record {
      told : IsHonest (seen l.tx) → (b : Broker) → Represents None (seen l.initial.tx).rows b
          → (c : Broker) × Represents None (seen l.tx).rows c
          × (revoked_each (drop l.token-index l.tokens) c ≡ revoked_each l.tokens b);
      goes_on : GoesOn (seen l.initial.tx) (seen l.tx) false;
    }
