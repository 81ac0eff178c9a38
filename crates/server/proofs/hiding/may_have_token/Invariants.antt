use Rattle.std.proofs.Common.{◌≡◌, drop}
use Rattle.server.proofs.HidingLemmas.{has_token}
use Rattle.server.proofs.hiding.may_have_token.Given as goal

-- where none was found
abbrev pub invariant-loop-i : goal.invariant-loop-i
invariant-loop-i l = has_token l.line ≡ has_token (drop l.i l.line)
