use Rattle.broker_types.specs.SpendingLaws.{drop_takes_out, drop_ends_origin}
use Rattle.broker_types.proofs.laws.dropping_takes_out.Goals as goal

pub returns-clause-taken_out : goal.returns-clause-taken_out
returns-clause-taken_out c = drop_takes_out

pub returns-clause-origin_gone : goal.returns-clause-origin_gone
returns-clause-origin_gone c = drop_ends_origin
