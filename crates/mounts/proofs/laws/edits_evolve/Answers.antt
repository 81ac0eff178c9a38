use Rattle.mounts.specs.Words.{mounts_evolve}
use Rattle.mounts.proofs.laws.edits_evolve.Goals as goal

pub returns : goal.returns
returns c b next = mounts_evolve b next
