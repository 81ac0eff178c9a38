use Rattle.token_tree.specs.Words.{create_evolves, renew_evolves}
use Rattle.token_tree.proofs.laws.edits_evolve.Goals as goal

pub returns-clause-created : goal.returns-clause-created
returns-clause-created c b t x new no_lease = create_evolves b t x no_lease new

pub returns-clause-renewed : goal.returns-clause-renewed
returns-clause-renewed c b t ends = renew_evolves b t ends
