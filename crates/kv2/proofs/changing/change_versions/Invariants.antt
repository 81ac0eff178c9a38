use Rattle.records.specs.Words.{false, take, table_of, IsHonest, GoesOn}
use Rattle.kv2.specs.Words.{change_of, IsTimely, AreChanged}
use Rattle.kv2.proofs.changing.change_versions.Given as goal

-- the versions so far are changed
abbrev pub invariant-loop-number : goal.invariant-loop-number
invariant-loop-number g l =
    let seen = g.T.RecordsTx.seen in
    record {
      rows : IsHonest (seen l.tx) → IsTimely l.change
          → AreChanged (change_of l.change) (take l.number-index l.numbers) l.name (table_of (seen l.fn.tx).rows)
          (table_of (seen l.tx).rows);
      goes_on : GoesOn (seen l.fn.tx) (seen l.tx) false;
    }
