use Rattle.broker_types.specs.IdentifierLaws.{id-same, id-length}
use Rattle.broker_types.proofs.identifier.identifiers_differ.Goals as goal

pub returns-clause-differ : goal.returns-clause-differ
returns-clause-differ c = λ ne e. ne (id-same c.args.v c.args.w c.ranges.v.fits c.ranges.w.fits e)

pub returns-clause-long : goal.returns-clause-long
returns-clause-long c = id-length c.args.v
