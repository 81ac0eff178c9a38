use Rattle.std.proofs.Common.{◌≡◌, ◌≤◌, ℕ, false, arith, nat_cmp}
use Rattle.std.specs.BTreeMap.{get}
use Rattle.broker_model.specs.Words.{is_gt, nat_tests, le_from_not_gt, ge_from_not_lt}
use Rattle.hub.proofs.EntryLemmas.{last_from}
use Rattle.hub.proofs.table.last_up_to.Goals as goal

not_gt : (k conn : ℕ) → k ≤ conn → is_gt (nat_cmp k conn) ≡ false
not_gt k conn le = grind (arith, nat_tests)

pub returns-in-Some-clause-some : goal.returns-in-Some-clause-some
returns-in-Some-clause-some c =
    let conn = c.args.conn in
    let h = c.range.ensures.in_range tt in
    let e = h.3 _ _ c.in-Some.ensures.steps in
    last_from (λ (k : ℕ). get nat_cmp c.args.connections.now k) conn c.in-Some.first.now c.in-Some.entry.now e.1
    (le_from_not_gt _ conn e.0.1)
    (λ k le there. ge_from_not_lt _ k (h.4 _ _ c.in-Some.ensures.steps k (tt, not_gt k conn le) there))

pub returns-in-None-clause-none : goal.returns-in-None-clause-none
returns-in-None-clause-none c = λ nothing k le. (c.range.ensures.in_range tt).5 c.in-None.ensures.steps.0 k
    (tt, not_gt k c.args.conn le)
