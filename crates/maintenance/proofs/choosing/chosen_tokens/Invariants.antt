use Rattle.std.proofs.Common.{◌≡◌, ◌++◌, None, false, drop, filter, map}
use Rattle.broker_model.specs.Words.{Broker, IsHonest, GoesOn}
use Rattle.broker_rows.specs.Words.{Represents}
use Rattle.maintenance.specs.Choosing.{is_chosen, is_chosen_at}
use Rattle.maintenance.proofs.Listed.{key_of}
use Rattle.maintenance.proofs.choosing.chosen_tokens.Given as goal

-- those that were chosen, with those that are left to choose
abbrev pub invariant-loop-entry : goal.invariant-loop-entry
invariant-loop-entry g l =
    let seen = g.T.RecordsTx.seen in
    record {
      told : IsHonest (seen l.tx) → (b : Broker) → Represents None (seen l.initial.tx).rows b
          → l.tokens.items
          ++ filter (is_chosen_at (is_chosen l.chosen) b) (map key_of (drop l.entry-index l.entry-items))
          ≡ filter (is_chosen_at (is_chosen l.chosen) b) (map key_of l.entry-items);
      same : IsHonest (seen l.tx) → (seen l.tx).rows ≡ (seen l.initial.tx).rows;
      goes_on : GoesOn (seen l.initial.tx) (seen l.tx) false;
    }
