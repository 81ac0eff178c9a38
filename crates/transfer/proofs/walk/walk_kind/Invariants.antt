use Rattle.std.proofs.Common.{◌≡◌, ◌++◌, List, false, string_bytes}
use Rattle.records.specs.Words.{RowKey, IsHonest, GoesOn}
use Rattle.records.specs.declared.row.Row.{Row}
use Rattle.transfer.proofs.PageOrder.{AreBefore}
use Rattle.transfer.proofs.walk.walk_kind.Given as goal

-- the rows of the kind before the next page were visited
abbrev pub invariant-loop : goal.invariant-loop
invariant-loop g l =
    let seen = g.T.RecordsTx.seen in
    record {
      same : IsHonest (seen l.tx) → (seen l.tx).rows ≡ (seen l.initial.tx).rows;
      visited : IsHonest (seen l.tx) → (done : List (RowKey × Row))
          × AreBefore (seen l.initial.tx).rows l.kind (string_bytes l.from) done
          × ((first : _) (rows : List (RowKey × Row)) → g.V.Visit.visited first l.initial.visitor rows
          → g.V.Visit.visited first l.visitor (rows ++ done));
      goes_on : GoesOn (seen l.initial.tx) (seen l.tx) false;
    }
