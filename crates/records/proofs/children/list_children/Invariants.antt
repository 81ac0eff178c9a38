use Rattle.std.proofs.Common.{◌≡◌, [], false, string_bytes}
use Rattle.records.specs.Words.{push_each, IsHonest, GoesOn, rows_under}
use Rattle.records.proofs.ChildWalk.{children_from, found_in, keys_of}
use Rattle.records.proofs.children.list_children.Given as goal

-- to add the children of the keys that are left leads to the same names
abbrev pub invariant-loop : goal.invariant-loop
invariant-loop g l =
    let seen = g.T.RecordsTx.seen in
    let rows = (seen l.initial.tx).rows in
    record {
      walk : IsHonest (seen l.tx) → push_each l.names.items (children_from rows l.kind l.prefix (string_bytes l.from))
          ≡ push_each [] (found_in l.prefix (keys_of (rows_under rows l.kind l.prefix)));
      same : IsHonest (seen l.tx) → (seen l.tx).rows ≡ rows;
      goes_on : GoesOn (seen l.initial.tx) (seen l.tx) false;
    }
