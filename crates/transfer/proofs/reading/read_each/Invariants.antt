use Rattle.std.proofs.Common.{◌≡◌, false}
use Rattle.records.specs.Words.{IsHonest, GoesOn, entries, empty}
use Rattle.transfer.proofs.RowsRead.{ReadSoFar}
use Rattle.transfer.proofs.reading.read_each.Given as goal

-- so many rows were read and put
abbrev pub invariant-loop : goal.invariant-loop
invariant-loop g l =
    let seen = g.T.RecordsTx.seen in
    record {
      read : (so : ReadSoFar g.R.Source.left l.initial.lines l.lines l.counter l.last)
          × (IsHonest (seen l.tx) → (seen l.initial.tx).rows ≡ empty → entries (seen l.tx).rows ≡ so.rows);
      goes_on : GoesOn (seen l.initial.tx) (seen l.tx) false;
    }
