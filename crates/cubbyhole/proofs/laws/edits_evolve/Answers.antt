use Rattle.cubbyhole.specs.Words.{write_evolves, delete_evolves, drop_owner_evolves}
use Rattle.cubbyhole.proofs.laws.edits_evolve.Goals as goal

pub returns-clause-written : goal.returns-clause-written
returns-clause-written c b t path object = write_evolves b t path object

pub returns-clause-deleted : goal.returns-clause-deleted
returns-clause-deleted c b t path = delete_evolves b t path

pub returns-clause-dropped : goal.returns-clause-dropped
returns-clause-dropped c b t = drop_owner_evolves b t
