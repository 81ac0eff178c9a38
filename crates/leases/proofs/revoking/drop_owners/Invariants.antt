use Rattle.records.specs.Words.{false, drop, Table, table, IsHonest, GoesOn}
use Rattle.leases.specs.Words.{EndsLeases, AreReadable, are_owned}
use Rattle.leases.proofs.revoking.drop_owners.Given as goal

-- where the leases of the tokens that are left end, those of all have ended
abbrev pub invariant-loop-token : goal.invariant-loop-token
invariant-loop-token g l =
    let seen = g.T.RecordsTx.seen in
    record {
      rows : IsHonest (seen l.tx) → (last : Table)
          → EndsLeases (are_owned (drop l.token-index l.tokens)) (table (seen l.tx)) last
          → EndsLeases (are_owned l.tokens) (table (seen l.initial.tx)) last;
      readable : IsHonest (seen l.tx) → AreReadable (are_owned l.tokens) (table (seen l.initial.tx))
          → AreReadable (are_owned (drop l.token-index l.tokens)) (table (seen l.tx));
      goes_on : GoesOn (seen l.initial.tx) (seen l.tx) false;
    }
