use Rattle.records.specs.Words.{on_ok_weaker}
use Rattle.transfer.proofs.WrittenLines.{begun}
use Rattle.transfer.proofs.summed.Summed.begin.Goals as goal

pub returns : goal.returns
returns g c =
    on_ok_weaker c.push_line.result
    (begun g.W.Sink.written _ c.push_line.new.self c.args.count _ c.as_str.result.now c.in_ok-line.ensures
    c.as_str.ensures.value c.new-self.ensures)
    c.push_line.ensures
