use Rattle.std.proofs.Common.{◌≡◌, ◌<◌, ◌+◌, [], length, false, string_bytes}
use Rattle.broker_model.specs.Words.{rows_from, rows_under, IsHonest, GoesOn}
use Rattle.soundness.specs.Words.{Walked}
use Rattle.soundness.proofs.PageWalk.{IsBelow}
use Rattle.soundness.proofs.visiting.visit_kind.Given as goal

-- the rows below the next page were visited, and there are so many of them
abbrev pub invariant-loop : goal.invariant-loop
invariant-loop g l =
    let seen = g.T.RecordsTx.seen in
    let rows = (seen l.initial.tx).rows in
    record {
      same : IsHonest (seen l.tx) → (seen l.tx).rows ≡ rows;
      walked : IsHonest (seen l.tx)
          → Walked rows (IsBelow rows l.kind (string_bytes l.from)) l.initial.walk l.walk;
      counted : IsHonest (seen l.tx) → length l.walk.troubles.items < l.initial.walk.most
          → l.count + length (rows_from rows l.kind [] (string_bytes l.from)) ≡ length (rows_under rows l.kind []);
      goes_on : GoesOn (seen l.initial.tx) (seen l.tx) false;
    }
