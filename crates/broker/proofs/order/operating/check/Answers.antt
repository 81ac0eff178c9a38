use Rattle.std.proofs.Common.{◌≡◌, false, sym, ap, ◌∙◌}
use Rattle.broker_model.specs.Words.{are_new, needed_by}
use Rattle.broker_rows.specs.Words.{still_represented}
use Rattle.broker.specs.Meant.{meant}
use Rattle.broker.proofs.Routes.{operated_used}
use Rattle.broker.proofs.order.operating.check.Goals as goal

pub returns-then-not-branch-clause-refused : goal.returns-then-not-branch-clause-refused
returns-then-not-branch-clause-refused g c honest who b names st needed =
    let ask = c.args.ask.now in
    let command = meant c.args.command.now in
    let old = (g.T.RecordsTx.seen c.args.tx.now).rows in
    let new = (g.T.RecordsTx.seen c.are_new.new.tx).rows in
    let used : are_new b.used (needed_by ask names command) ≡ false =
    ap (are_new b.used) (sym needed) ∙ sym (c.in_ok-are_new.ensures.told honest who b st) ∙ c.if-not-branch.true in
    operated_used b who names ask command new used
    (still_represented b old new (c.in_ok-are_new.ensures.call.same honest) st)

pub returns-clause-fresh : goal.returns-clause-fresh
returns-clause-fresh g c honest who b st = sym (c.in_ok-are_new.ensures.told honest who b st) ∙ c.if-not-branch.false
