use Rattle.std.proofs.Common.{◌≡◌, ◌++◌, drop, take, flat_map, false, All}
use Rattle.records.specs.Words.{Map, Text, table, IsHonest, GoesOn}
use Rattle.policies.specs.Words.{rules_named, ArePoliciesAt, IsReadable}
use Rattle.policies.proofs.gathering.rules_of.Given as goal

-- the rules of the policies so far and those to come; the rows so far were read
abbrev pub invariant-loop-name : goal.invariant-loop-name
invariant-loop-name g l =
    let seen = g.T.RecordsTx.seen in
    record {
      told : IsHonest (seen l.tx) → (policies : Map Text) → ArePoliciesAt (table (seen l.initial.tx)) l.names policies
          → flat_map (λ p. p.value) l.read.items ++ flat_map (rules_named policies) (drop l.name-index l.names)
          ≡ flat_map (rules_named policies) l.names;
      readable : IsHonest (seen l.tx) → All (IsReadable (table (seen l.initial.tx))) (take l.name-index l.names);
      same : IsHonest (seen l.tx) → (seen l.tx).rows ≡ (seen l.initial.tx).rows;
      goes_on : GoesOn (seen l.initial.tx) (seen l.tx) false;
    }
