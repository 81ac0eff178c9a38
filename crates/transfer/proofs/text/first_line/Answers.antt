use Rattle.records.specs.Words.{IfOk-weaker}
use Rattle.transfer.proofs.text.first_line.Goals as goal

pub returns : goal.returns
returns c = IfOk-weaker c.head.result _ _ (λ line is. (c.args.version.now, c.requires, is)) c.head.ensures
