use Rattle.cubbyhole.proofs.EndedTokens.{ended_left}
use Rattle.cubbyhole.proofs.laws.ended_tokens_leave_nothing.Goals as goal

pub returns : goal.returns
returns c b d ended rows lens told objects = ended_left b d ended rows lens told objects
