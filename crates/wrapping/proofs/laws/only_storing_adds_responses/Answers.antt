use Rattle.wrapping.specs.Words.{store_adds_one, rewrap_adds_none, drop_adds_none, drop_accessor_adds_none}
use Rattle.wrapping.specs.Words.{ends_add_none}
use Rattle.wrapping.proofs.laws.only_storing_adds_responses.Goals as goal

pub returns-clause-stored : goal.returns-clause-stored
returns-clause-stored c b t q w v is = store_adds_one b t q w v is

pub returns-clause-rewrapped : goal.returns-clause-rewrapped
returns-clause-rewrapped c b t u a now = rewrap_adds_none b t u a now

pub returns-clause-dropped : goal.returns-clause-dropped
returns-clause-dropped c b t = drop_adds_none b t

pub returns-clause-dropped_by_accessor : goal.returns-clause-dropped_by_accessor
returns-clause-dropped_by_accessor c b a = drop_accessor_adds_none b a

pub returns-clause-ended : goal.returns-clause-ended
returns-clause-ended c b now = ends_add_none b now
