use Rattle.std.proofs.Common.{◌≡◌, ◌-◌, ◌^◌, false}
use Rattle.records.specs.Words.{IsHonest, GoesOn}
use Rattle.token_tree.specs.Words.{starts, AreStarted, Descends}
use Rattle.token_tree.proofs.Walks.{IsWalk}
use Rattle.token_tree.proofs.descending.descend.Given as goal

abbrev pub invariant-loop-next : goal.invariant-loop-next
invariant-loop-next g l =
    let seen = g.T.RecordsTx.seen in
    record {
      walk : IsHonest (seen l.tx) → AreStarted (starts l.start) (seen l.initial.tx).rows l.initial.ended.items
          → IsWalk (starts l.start) (seen l.initial.tx).rows l.ended.items l.next;
      down : IsHonest (seen l.tx) → Descends (seen l.initial.tx).rows l.initial.ended.items l.ended.items;
      same : IsHonest (seen l.tx) → (seen l.tx).rows ≡ (seen l.initial.tx).rows;
      goes_on : GoesOn (seen l.initial.tx) (seen l.tx) false;
    }

-- no list is longer than the numbers go
abbrev pub decreases-loop-next : goal.decreases-loop-next
decreases-loop-next g l = 2 ^ 64 - l.next
