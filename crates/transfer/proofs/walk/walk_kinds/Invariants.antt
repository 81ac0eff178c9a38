use Rattle.std.proofs.Common.{◌≡◌, ◌++◌, List, [], false, take, flat_map}
use Rattle.records.specs.Words.{RowKey, IsHonest, GoesOn, rows_under}
use Rattle.records.specs.declared.row.Row.{Row}
use Rattle.transfer.proofs.walk.walk_kinds.Given as goal

-- the rows of the kinds so far were visited
abbrev pub invariant-loop-kind : goal.invariant-loop-kind
invariant-loop-kind g l =
    let seen = g.T.RecordsTx.seen in
    let all = (seen l.initial.tx).rows in
    record {
      same : IsHonest (seen l.tx) → (seen l.tx).rows ≡ all;
      visited : IsHonest (seen l.tx) → (first : _) (rows : List (RowKey × Row))
          → g.V.Visit.visited first l.initial.visitor rows
          → g.V.Visit.visited first l.visitor
          (rows ++ flat_map (λ k. rows_under all k []) (take l.kind-index l.kinds));
      goes_on : GoesOn (seen l.initial.tx) (seen l.tx) false;
    }
