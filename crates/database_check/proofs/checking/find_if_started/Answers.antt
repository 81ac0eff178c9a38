use Rattle.std.proofs.Common.{◌⊎◌, inr, subst, IfOk, IfNone, IfSome}
use Rattle.records.specs.Words.{IfOk-weaker, honest_before, IsHonest, Rows}
use Rattle.broker_types.specs.OptionLaws.{if_none_weaker}
use Rattle.broker_rows.specs.Words.{HasNoClock}
use Rattle.database_check.specs.Findings.{OpenAsABroker, OpenAsNone}
use Rattle.database_check.proofs.checking.find_if_started.Goals as goal

pub returns-clause-sound : goal.returns-clause-sound
returns-clause-sound g c honest =
    let seen = g.T.RecordsTx.seen in
    let asked : IsHonest (seen c.get.new.self) =
    honest_before (seen c.get.new.self) (seen c.find_defect.new.tx) _ c.find_defect.ensures.call.goes_on honest in
    subst (λ (rows : Rows). IfOk c.find_defect.result (λ defect. IfNone defect (HasNoClock rows ⊎ OpenAsABroker rows)))
    (c.in_ok-get.ensures.call.same asked)
    (IfOk-weaker c.find_defect.result _ _
    (λ defect. if_none_weaker defect (λ opens. inr ((seen c.find_defect.new.tx).rows, opens.0, opens.1)))
    (c.find_defect.ensures.sound honest))

pub returns-clause-unsound : goal.returns-clause-unsound
returns-clause-unsound g c honest =
    let seen = g.T.RecordsTx.seen in
    let asked : IsHonest (seen c.get.new.self) =
    honest_before (seen c.get.new.self) (seen c.find_defect.new.tx) _ c.find_defect.ensures.call.goes_on honest in
    subst (λ (rows : Rows). IfOk c.find_defect.result (λ defect. IfSome defect (OpenAsNone rows)))
    (c.in_ok-get.ensures.call.same asked) (c.find_defect.ensures.unsound honest)
