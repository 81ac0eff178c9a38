use Rattle.std.proofs.Common.{◌≡◌, false}
use Rattle.std.specs.List.{fold}
use Rattle.records.specs.Transaction.{GoesOn, IsHonest}
use Rattle.salvage.specs.Changes.{changed}
use Rattle.salvage.proofs.salvaging.salvage.Given as goal

-- the rows are those at first with what was changed
abbrev pub invariant-loop : goal.invariant-loop
invariant-loop g l =
    let seen = g.T.RecordsTx.seen in
    record {
      rows : IsHonest (seen l.tx)
          → (seen l.tx).rows ≡ fold changed (seen l.initial.tx).rows l.changes.items;
      goes_on : GoesOn (seen l.initial.tx) (seen l.tx) false;
    }
