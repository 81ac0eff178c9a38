use Rattle.broker_types.specs.OptionLaws.{of_none, of_some}
use Rattle.records.specs.Words.{honest_before, IsHonest}
use Rattle.database_check.specs.Findings.{OpenAsNone}
use Rattle.database_check.proofs.checking.find.Goals as goal

pub returns-in_ok-of-in-None-clause-sound : goal.returns-in_ok-of-in-None-clause-sound
returns-in_ok-of-in-None-clause-sound g c honest =
    let seen = g.T.RecordsTx.seen in
    let found : IsHonest (seen c.find_defect.new.tx) =
    honest_before (seen c.find_defect.new.tx) (seen c.of.new.tx) _ c.in_ok-of-in-None.ensures.call.goes_on honest in
    let opens = of_none c.in_ok-find_defect.field-0 c.in-None.is (c.in_ok-find_defect.ensures.sound found) in
    ((seen c.find_defect.new.tx).rows, opens.0, opens.1, c.in_ok-of-in-None.ensures.counted honest)

pub returns-in-Some-clause-unsound : goal.returns-in-Some-clause-unsound
returns-in-Some-clause-unsound g c honest =
    of_some (OpenAsNone (g.T.RecordsTx.seen c.args.tx.now).rows) c.in_ok-find_defect.field-0
    c.in-Some.defect c.in-Some.is (c.in_ok-find_defect.ensures.unsound honest)
