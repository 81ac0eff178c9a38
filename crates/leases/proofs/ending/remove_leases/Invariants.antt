use Rattle.records.specs.Words.{false, drop, AllByRecursion, Rows, IsHonest, GoesOn}
use Rattle.leases.specs.Words.{IsLeaseRow, RemovesEach, leases_among}
use Rattle.leases.proofs.ending.remove_leases.Given as goal

-- where what is left is taken out, all has been
abbrev pub invariant-loop-entry : goal.invariant-loop-entry
invariant-loop-entry g l =
    let seen = g.T.RecordsTx.seen in
    record {
      rows : IsHonest (seen l.tx) → (last : Rows)
          → RemovesEach (leases_among (drop l.entry-index l.entries)) (seen l.tx).rows last
          → RemovesEach (leases_among l.entries) (seen l.initial.tx).rows last;
      left : AllByRecursion (λ e. IsLeaseRow e.1) (leases_among l.entries)
          → AllByRecursion (λ e. IsLeaseRow e.1) (leases_among (drop l.entry-index l.entries));
      goes_on : GoesOn (seen l.initial.tx) (seen l.tx) false;
    }
