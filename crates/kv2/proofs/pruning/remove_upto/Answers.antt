use Rattle.std.proofs.Common.{◌≡◌, [], drop, ap, ◌∙◌, arith}
use Rattle.records.specs.Words.{drop_all, table_of, IsHonest, without_listed}
use Rattle.kv2.proofs.Removals.{table_of-without_upto}
use Rattle.kv2.proofs.pruning.remove_upto.Goals as goal

pub returns-clause-rows : goal.returns-clause-rows
returns-clause-rows g c honest =
    let early : IsHonest (g.T.RecordsTx.seen c.under_upto.new.self) =
    omega (arith, c.loop-entry.invariant.mismatches) in
    let items = c.deref-entry-items.result.now in
    let none : drop c.loop-entry.entry-index items ≡ [] = drop_all _ _ c.loop-entry-test.false in
    ap table_of (
    (rw none at (c.loop-entry.invariant.rows honest))
    ∙ ap (λ m. without_listed m items) (c.in_ok-list.ensures.call.same early)
    ∙ ap (without_listed (g.T.RecordsTx.seen c.args.tx.now).rows)
    (c.deref-entry-items.ensures.value ∙ c.in_ok-list.ensures.entries early))
    ∙ table_of-without_upto (g.T.RecordsTx.seen c.args.tx.now).rows c.args.kind c.args.prefix.now c.args.last.now
