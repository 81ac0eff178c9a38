use Rattle.broker_model.specs.Words.{rules}
use Rattle.broker_rows.proofs.identifiers.identifier.Goals as goal

pub returns-clause-good : goal.returns-clause-good
returns-clause-good c = (c.args.word, c.ranges.word.fits, search rules)
