use Rattle.std.proofs.Common.{[], refl, subst}
use Rattle.records.specs.Words.{IfOk-weaker}
use Rattle.transfer.proofs.KindOrder.{all_kinds, count_up, kinds}
use Rattle.transfer.proofs.walk.walk.Goals as goal

pub returns-clause-visited : goal.returns-clause-visited
returns-clause-visited g c honest =
    IfOk-weaker c.walk_kinds.result _ _
    (λ whole visited all v has. subst (g.V.Visit.visited v c.walk_kinds.new.visitor)
    (all_kinds (g.T.RecordsTx.seen c.args.tx.now).rows kinds count_up refl) (visited all v [] has))
    (c.walk_kinds.ensures.visited honest)
