use Rattle.histories.proofs.TokenLaws.{end_in_time, end_in_time_since_start}
use Rattle.histories.proofs.laws.tokens_end_in_time.Goals as goal

pub returns-clause-since : goal.returns-clause-since
returns-clause-since c = end_in_time c.operations_do_as_told.ensures

pub returns-clause-since_start : goal.returns-clause-since_start
returns-clause-since_start c = end_in_time_since_start c.operations_do_as_told.ensures
