use Rattle.std.proofs.Common.{length}
use Rattle.command_line.proofs.policy_places.member.Given as goal

abbrev pub decreases-loop-key : goal.decreases-loop-key
decreases-loop-key l = length l.reader
