use Rattle.std.proofs.Common.{◌≡◌, None, false, drop}
use Rattle.broker_model.specs.Words.{Broker, IsHonest, GoesOn}
use Rattle.broker_rows.specs.Words.{Represents}
use Rattle.maintenance.specs.NewRoot.{first_new}
use Rattle.maintenance.proofs.new_root.first_new.Given as goal

-- the first that is new is among those that are left
abbrev pub invariant-loop-words : goal.invariant-loop-words
invariant-loop-words g l =
    let seen = g.T.RecordsTx.seen in
    record {
      told : IsHonest (seen l.tx) → (b : Broker) → Represents None (seen l.initial.tx).rows b
          → first_new b.used (drop l.words-index l.draws) ≡ first_new b.used l.draws;
      same : IsHonest (seen l.tx) → (seen l.tx).rows ≡ (seen l.initial.tx).rows;
      goes_on : GoesOn (seen l.initial.tx) (seen l.tx) false;
    }
