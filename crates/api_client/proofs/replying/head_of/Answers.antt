use Rattle.std.proofs.Common.{◌≤◌, length, inr, arith}
use Rattle.api_client.proofs.ReplyLemmas.{no_head_later}
use Rattle.api_client.proofs.replying.head_of.Goals as goal

pub returns-then-len-ge-HEAD_LIMIT-clause-err : goal.returns-then-len-ge-HEAD_LIMIT-clause-err
returns-then-len-ge-HEAD_LIMIT-clause-err g c =
    let long : 16384 ≤ length c.loop-head.bytes.items = omega (arith, c.loop-head.bytes.ok.0) in
    inr (no_head_later _ _ c.loop-head.bytes.items c.loop-head.invariant.consumed
    (rw c.as_slice.ensures.value at c.in-Unended.ensures) long)
