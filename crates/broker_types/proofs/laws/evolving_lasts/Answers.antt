use Rattle.broker_types.specs.EvolvesLaws.{evolves_trans, ended_lease_stays}
use Rattle.broker_types.proofs.laws.evolving_lasts.Goals as goal

pub returns-clause-transitive : goal.returns-clause-transitive
returns-clause-transitive c = evolves_trans

pub returns-clause-lease_ended : goal.returns-clause-lease_ended
returns-clause-lease_ended c = ended_lease_stays
