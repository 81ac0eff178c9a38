use Rattle.histories.proofs.KeptReplies.{hands_out_kept, same_reply}
use Rattle.histories.proofs.laws.kept_replies_are_the_replies.Goals as goal

pub returns-clause-since : goal.returns-clause-since
returns-clause-since c = hands_out_kept c.operations_do_as_told.ensures

pub returns-clause-since_start : goal.returns-clause-since_start
returns-clause-since_start c = same_reply c.operations_do_as_told.ensures
