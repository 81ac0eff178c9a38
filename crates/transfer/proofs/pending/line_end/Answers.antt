use Rattle.transfer.proofs.LineCuts.{first_feed}
use Rattle.transfer.proofs.pending.line_end.Goals as goal

pub returns-clause-found : goal.returns-clause-found
returns-clause-found c = (first_feed c.args.bytes.now c.first_feed.result c.first_feed.ensures).0

pub returns-clause-none : goal.returns-clause-none
returns-clause-none c = (first_feed c.args.bytes.now c.first_feed.result c.first_feed.ensures).1
