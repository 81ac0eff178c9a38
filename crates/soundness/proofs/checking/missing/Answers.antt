use Rattle.soundness.proofs.CheckLemmas.{missing_told}
use Rattle.soundness.proofs.checking.missing.Goals as goal

pub returns-clause-broken : goal.returns-clause-broken
returns-clause-broken g c honest =
    let at = c.in_ok-at.ensures in
    missing_told (g.T.RecordsTx.seen c.args.tx.now).rows (c.in_ok-has_row.ensures.whole honest c.if-branch.false)
    c.in_ok-at.field-0 at.0 at.1 at.2 at.3 c.new-troubles.result.items c.push.new.self.items
    c.new-troubles.ensures.items c.in_ok-push.ensures.items
