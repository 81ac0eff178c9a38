use Rattle.broker_model.specs.Words.{ℕ, arith, inl, refl, ge_from_not_lt}
use Rattle.std.proofs.Common.{nat_cmp}
use Rattle.std.specs.BTreeMap.{get}
use Rattle.hub.proofs.EntryLemmas.{at_none, next_after, no_entries, none_past, none_without_entries}
use Rattle.hub.proofs.table.next_number.Goals as goal

pub returns-in-Some : goal.returns-in-Some
returns-in-Some c =
    let f = λ (k : ℕ). get nat_cmp c.args.connections.now k in
    let first = c.in-Some.first.now in
    next_after f first c.in-Some.entry.now c.next.result c.in-Some.ensures.value
    (none_past f first (λ k there. ge_from_not_lt first k (c.in-Some.ensures.greatest k there)))
    (omega arith) c.next.ensures

pub returns-in-None : goal.returns-in-None
returns-in-None c =
    let table = c.args.connections.now in
    let empty = no_entries table.entries c.in-None.ensures.variant.1 in
    record {
      unseen = λ k le. at_none (λ (q : ℕ). get nat_cmp table q) k (λ q up_to. none_without_entries table empty q);
      last = inl refl;
    }
