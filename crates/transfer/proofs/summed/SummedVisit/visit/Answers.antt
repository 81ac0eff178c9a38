use Rattle.records.specs.Words.{IfOk-weaker}
use Rattle.transfer.proofs.WrittenLines.{writes_both}
use Rattle.transfer.proofs.summed.SummedVisit.visit.Goals as goal

pub returns : goal.returns
returns g c =
    IfOk-weaker c.push_rows.result _ _
    (λ more pushed yes first rows has. writes_both g.W.Sink.written first c.args.self.now c.push_rows.new.self rows
    c.args.page.now has (pushed yes))
    c.push_rows.ensures
