use Rattle.hub.proofs.HubLemmas.{empty_represents}
use Rattle.hub.proofs.table.empty.Goals as goal

pub returns : goal.returns
returns c = empty_represents c.new.result c.new.ensures.empty
