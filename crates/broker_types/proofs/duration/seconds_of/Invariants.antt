use Rattle.std.proofs.Common.{◌≡◌, ◌≤◌, ◌+◌, ◌++◌, List, ℕ, None, drop, unwrap_or}
use Rattle.broker_types.specs.Words.{groups}
use Rattle.broker_types.proofs.duration.seconds_of.Given as goal

-- whatever comes after the text, the bytes to come decide
abbrev pub invariant-loop-byte : goal.invariant-loop-byte
invariant-loop-byte l = record {
  rest : (more : List ℕ) → groups 0 None (l.bytes ++ more) ≡ groups l.sum l.begun (drop l.byte-index l.bytes ++ more);
  small : l.sum + unwrap_or l.begun 0 ≤ 4294967295;
}
