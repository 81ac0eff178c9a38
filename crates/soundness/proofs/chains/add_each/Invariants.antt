use Rattle.std.proofs.Common.{◌<◌, ℕ, get_or, All}
use Rattle.broker_model.specs.Words.{Row, RowKey, Table}
use Rattle.soundness.specs.Words.{HasWordOf, OnlyAdds, Ends, EachEnds, IsAbove}
use Rattle.soundness.proofs.chains.add_each.Given as goal

-- chains end as before
abbrev pub invariant-loop-token : goal.invariant-loop-token
invariant-loop-token l =
    record {
      words : (rows : Table) → All (λ e. Ends rows e.0.1) l.tokens → EachEnds rows l.initial.words
          → EachEnds rows l.words;
      queue : (rows : Table) → All (λ e. Ends rows e.0.1) l.tokens → All (IsAbove rows) l.initial.queue.items
          → All (IsAbove rows) l.queue.items;
      added : (k : ℕ) (d : RowKey × Row) → k < l.token-index → HasWordOf l.words (get_or l.tokens k d).0.1;
      kept : OnlyAdds l.initial.words l.words l.initial.queue.items l.queue.items;
    }
