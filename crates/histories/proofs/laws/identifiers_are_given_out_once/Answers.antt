use Rattle.histories.proofs.GivenOut.{all_stay_used, any_gives_out_new, gives_out_new, no_identifier_twice}
use Rattle.histories.proofs.GivenOut.{none_twice_by_any}
use Rattle.histories.proofs.laws.identifiers_are_given_out_once.Goals as goal

pub returns-clause-since : goal.returns-clause-since
returns-clause-since c = gives_out_new c.operations_do_as_told.ensures

pub returns-clause-since_start : goal.returns-clause-since_start
returns-clause-since_start c = no_identifier_twice c.operations_do_as_told.ensures

pub returns-clause-of_any : goal.returns-clause-of_any
returns-clause-of_any c = any_gives_out_new c.operations_do_as_told.ensures

pub returns-clause-of_any_start : goal.returns-clause-of_any_start
returns-clause-of_any_start c = none_twice_by_any c.operations_do_as_told.ensures

pub returns-clause-stay_used : goal.returns-clause-stay_used
returns-clause-stay_used c = all_stay_used c.operations_do_as_told.ensures
