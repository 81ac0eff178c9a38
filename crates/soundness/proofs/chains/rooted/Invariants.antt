use Rattle.std.proofs.Common.{◌≡◌, ◌-◌, ◌^◌, false, [], All, Contains}
use Rattle.broker_model.specs.Words.{table_of, IsHonest, GoesOn}
use Rattle.soundness.specs.Words.{AreQueued, EachEnds, IsAbove}
use Rattle.soundness.proofs.RootedLemmas.{AreDone}
use Rattle.soundness.proofs.chains.rooted.Given as goal

-- the chain of each token so far ends
abbrev pub invariant-loop-next : goal.invariant-loop-next
invariant-loop-next g l =
    let seen = g.T.RecordsTx.seen in
    let rows = table_of (seen l.fn.tx).rows in
    record {
      same : IsHonest (seen l.tx) → (seen l.tx).rows ≡ (seen l.fn.tx).rows;
      words : IsHonest (seen l.tx) → EachEnds rows l.words;
      queue : IsHonest (seen l.tx) → All (IsAbove rows) l.queue.items;
      root : Contains l.queue.items [];
      queued : AreQueued l.words l.queue.items;
      done : IsHonest (seen l.tx) → AreDone rows l.words l.queue.items l.next;
      goes_on : GoesOn (seen l.fn.tx) (seen l.tx) false;
    }

-- no list is longer than the numbers go
abbrev pub decreases-loop-next : goal.decreases-loop-next
decreases-loop-next g l = 2 ^ 64 - l.next
