use Rattle.std.proofs.Common.{◌≡◌, ◌∙◌, Some, ap, rules}
use Rattle.row_lines.specs.Lines.{row_in}
use Rattle.transfer.specs.Files.{fed}
use Rattle.transfer.specs.Writing.{IsMore}
use Rattle.transfer.proofs.WrittenLines.{writes_next, writes_none}
use Rattle.transfer.proofs.summed.Summed.push_rows.Goals as goal

pub loop-entry-init : goal.loop-entry-init
loop-entry-init g c = writes_none g.W.Sink.written c.args.self.now

pub loop-entry-preserved : goal.loop-entry-preserved
loop-entry-preserved g c =
    let pushed : IsMore g.W.Sink.written c.loop-entry.self c.push_line.new.self (fed c.as_str.result.now) =
    search rules in
    let reads : row_in c.as_str.result.now ≡ Some c.entry-item.result =
    ap row_in c.as_str.ensures ∙ c.in_ok-line.ensures in
    writes_next g.W.Sink.written c.args.self.now c.loop-entry.self c.push_line.new.self c.args.page.now
    c.loop-entry.entry-index c.entry-item.result c.as_str.result.now c.loop-entry-test.true c.entry-item.is reads
    c.loop-entry.invariant pushed
