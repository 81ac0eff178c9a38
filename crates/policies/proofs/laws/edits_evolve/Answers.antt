use Rattle.policies.specs.Words.{policies_evolve}
use Rattle.policies.proofs.laws.edits_evolve.Goals as goal

pub returns : goal.returns
returns c = policies_evolve
