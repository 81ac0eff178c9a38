use Rattle.std.proofs.Common.{◌≡◌, false, drop}
use Rattle.broker_model.specs.Words.{table_of, IsHonest, GoesOn, without_cubbyholes}
use Rattle.broker_rows.proofs.ending.drop_cubbyholes.Given as goal

-- to drop what is left leads to the same rows
abbrev pub invariant-loop-token : goal.invariant-loop-token
invariant-loop-token g l =
    let seen = g.T.RecordsTx.seen in
    record {
      rows : IsHonest (seen l.tx) → without_cubbyholes (table_of (seen l.tx).rows) (drop l.token-index l.ended)
          ≡ without_cubbyholes (table_of (seen l.initial.tx).rows) l.ended;
      goes_on : GoesOn (seen l.initial.tx) (seen l.tx) false;
    }
