use Rattle.broker_model.specs.Words.{subst}
use Rattle.broker_rows.specs.Words.{Represents}
use Rattle.broker.specs.Stages.{may_be_spent}
use Rattle.broker.proofs.UnspentStays.{unspent_ended}
use Rattle.broker.proofs.order.finishing.end_caller.Goals as goal

pub returns-then-not-is_last_use-clause-told : goal.returns-then-not-is_last_use-clause-told
returns-then-not-is_last_use-clause-told g c honest b st =
    let caller = c.args.caller.now in
    let rows = (g.T.RecordsTx.seen c.args.tx.now).rows in
    unspent_ended b caller rows
    (subst (λ last. Represents (may_be_spent caller last) rows b) c.if-not-is_last_use.true st)

pub returns-clause-told : goal.returns-clause-told
returns-clause-told g c honest b st =
    let caller = c.args.caller.now in
    let rows = (g.T.RecordsTx.seen c.args.tx.now).rows in
    c.end_spent.ensures.told honest b
    (subst (λ last. Represents (may_be_spent caller last) rows b) c.if-not-is_last_use.false st)

pub returns-clause-wants : goal.returns-clause-wants
returns-clause-wants g c honest b st =
    let caller = c.args.caller.now in
    let rows = (g.T.RecordsTx.seen c.args.tx.now).rows in
    c.end_spent.ensures.wants honest b
    (subst (λ last. Represents (may_be_spent caller last) rows b) c.if-not-is_last_use.false st)
