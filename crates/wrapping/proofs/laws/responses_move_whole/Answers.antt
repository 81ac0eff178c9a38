use Rattle.wrapping.specs.Words.{moved_waits, moved_is_gone, moved_is_taken_out, others_wait, rewrap_marks_none}
use Rattle.wrapping.proofs.laws.responses_move_whole.Goals as goal

pub returns-clause-moved : goal.returns-clause-moved
returns-clause-moved c b t u a now w is = moved_waits b t u a now w is

pub returns-clause-gone : goal.returns-clause-gone
returns-clause-gone c b t u a now differ waits = moved_is_gone b t u a now differ waits

pub returns-clause-taken_out : goal.returns-clause-taken_out
returns-clause-taken_out c b t u a now sound differ waits = moved_is_taken_out b t u a now sound differ waits

pub returns-clause-others : goal.returns-clause-others
returns-clause-others c b t u a q now from onto = others_wait b t u a now q from onto

pub returns-clause-unmarked : goal.returns-clause-unmarked
returns-clause-unmarked c b t u a now = rewrap_marks_none b t u a now
