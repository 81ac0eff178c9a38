use Rattle.std.proofs.Common.{◌≡◌, false}
use Rattle.std.specs.List.{fold}
use Rattle.records.specs.Transaction.{GoesOn, IsHonest, Rows}
use Rattle.salvage.specs.Changes.{changed}
use Rattle.salvage.proofs.salvaging.mend_each.Given as goal

-- the rows are those at first with what was changed
abbrev pub invariant-loop-trouble : goal.invariant-loop-trouble
invariant-loop-trouble g l =
    let seen = g.T.RecordsTx.seen in
    record {
      rows : IsHonest (seen l.tx) → (first : Rows)
          → (seen l.initial.tx).rows ≡ fold changed first l.initial.changes.items
          → (seen l.tx).rows ≡ fold changed first l.changes.items;
      goes_on : GoesOn (seen l.initial.tx) (seen l.tx) false;
    }
