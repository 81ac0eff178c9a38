use Rattle.std.proofs.Common.{◌≡◌, All, false}
use Rattle.records.specs.Words.{IsHonest, GoesOn}
use Rattle.database_check.specs.Naming.{IsNumbered}
use Rattle.database_check.proofs.AllLemmas.{TellFirst}
use Rattle.database_check.proofs.all.tell_each.Given as goal

-- the rows so far were told of
abbrev pub invariant-loop-trouble : goal.invariant-loop-trouble
invariant-loop-trouble g l =
    let seen = g.T.RecordsTx.seen in
    let rows = (seen l.initial.tx).rows in
    record {
      same : IsHonest (seen l.tx) → (seen l.tx).rows ≡ rows;
      told : IsHonest (seen l.tx) → All (IsNumbered rows) l.troubles
          → TellFirst rows l.trouble-index l.troubles l.list.items;
      goes_on : GoesOn (seen l.initial.tx) (seen l.tx) false;
    }
