use Rattle.soundness.proofs.NotingLemmas.{ok_as}
use Rattle.soundness.proofs.PageWalk.{kinds_apart}
use Rattle.soundness.proofs.WalkLemmas.{in_all, walked_so}
use Rattle.soundness.proofs.visiting.visit_all.Goals as goal

pub returns-clause-walked : goal.returns-clause-walked
returns-clause-walked g c honest =
    ok_as c.visit_kinds.result
    (walked_so (g.T.RecordsTx.seen c.args.tx.now).rows _ _ c.args.walk.now c.visit_kinds.new.walk (λ e has. has.0)
    (λ room e has. (has, in_all e.0.0)))
    (c.visit_kinds.ensures.walked honest kinds_apart)
