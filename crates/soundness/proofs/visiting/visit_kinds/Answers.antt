use Rattle.std.proofs.Common.{◌∙◌, refl, false, arith, rules}
use Rattle.broker_model.specs.Words.{honest_before, goes_further}
use Rattle.soundness.proofs.WalkLemmas.{among_contained, contained_among, walked_kind, walked_none, walked_so}
use Rattle.soundness.proofs.visiting.visit_kinds.Goals as goal

pub loop-kind-init : goal.loop-kind-init
loop-kind-init g c =
    record {
      same = λ honest. refl;
      walked = λ honest apart.
          walked_none (g.T.RecordsTx.seen c.args.tx.now).rows _ c.args.walk.now
          (λ e has. let low = has.1.1 in absurd (omega (arith, low)));
      goes_on = search rules;
    }

pub loop-kind-preserved : goal.loop-kind-preserved
loop-kind-preserved g c =
    let seen = g.T.RecordsTx.seen in
    let done = c.in_ok-visit_kind.ensures in
    record {
      same = λ honest.
          let early = honest_before (seen c.loop-kind.tx) (seen c.visit_kind.new.tx) false done.call.goes_on honest in
          done.call.same honest ∙ c.loop-kind.invariant.same early;
      walked = λ honest apart.
          let early = honest_before (seen c.loop-kind.tx) (seen c.visit_kind.new.tx) false done.call.goes_on honest in
          walked_kind (seen c.args.tx.now).rows (seen c.loop-kind.tx).rows (c.loop-kind.invariant.same early)
          c.args.walk.now c.loop-kind.walk c.visit_kind.new.walk c.args.kinds.now c.loop-kind.kind-index
          c.loop-kind-test.true _ apart (c.loop-kind.invariant.walked early apart) (done.walked honest);
      goes_on = goes_further (seen c.args.tx.now) (seen c.loop-kind.tx) (seen c.visit_kind.new.tx) false
          c.loop-kind.invariant.goes_on done.call.goes_on;
    }

pub returns-clause-walked : goal.returns-clause-walked
returns-clause-walked g c honest apart =
    walked_so (g.T.RecordsTx.seen c.args.tx.now).rows _ _ c.args.walk.now c.loop-kind.walk
    (λ e has. (has.0, among_contained c.loop-kind.kind-index c.args.kinds.now e.0.0 has.1))
    (λ room e has. (
      has.0,
      contained_among c.loop-kind.kind-index c.args.kinds.now e.0.0 (omega (arith, c.loop-kind-test.false)) has.1,
    )) (c.loop-kind.invariant.walked honest apart)
