use Rattle.std.proofs.Common.{Ok, None, subst}
use Rattle.broker_types.specs.OptionLaws.{of_none}
use Rattle.transfer.specs.Reading.{IsHeadRead, IsTailRead}
use Rattle.transfer.proofs.RowsRead.{file_read}
use Rattle.transfer.proofs.reading.read_rows.Goals as goal

pub returns-in-None-clause-read : goal.returns-in-None-clause-read
returns-in-None-clause-read g c honest none text is =
    let left = g.R.Source.left in
    let a = c.args.lines.now in
    let b = c.read_head.new.self in
    let d = c.read_each.new.lines in
    let begun : IsHeadRead left a b (Ok c.in-Ok.count) =
    subst (IsHeadRead left a b) c.in-Ok.is c.in_ok-count.ensures in
    let ended : IsTailRead left d None = subst (IsTailRead left d) c.in-None.is c.in_ok-why-2.ensures in
    file_read left a b d c.in-Ok.count (g.T.RecordsTx.seen c.read_each.new.tx).rows text is begun
    (of_none c.in_ok-why.field-0 c.in_default.is (c.in_ok-why.ensures.read honest none)) ended
