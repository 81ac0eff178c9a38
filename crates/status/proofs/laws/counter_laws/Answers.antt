use Rattle.status.proofs.CountLemmas.{buckets_grow, counted_grows}
use Rattle.status.proofs.laws.counter_laws.Goals as goal

pub returns-clause-nothing_falls : goal.returns-clause-nothing_falls
returns-clause-nothing_falls c = counted_grows

pub returns-clause-buckets_grow : goal.returns-clause-buckets_grow
returns-clause-buckets_grow c = buckets_grow
