use Rattle.std.proofs.Common.{refl}
use Rattle.transfer.proofs.counted.count.Goals as goal

pub returns-then-branch-clause-counted : goal.returns-then-branch-clause-counted
returns-then-branch-clause-counted g c honest =
    c.in_ok-walk.ensures.visited honest c.if-branch.true c.walk.new.visitor refl
