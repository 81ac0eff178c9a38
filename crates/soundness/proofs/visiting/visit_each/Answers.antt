use Rattle.std.proofs.Common.{◌≡◌, ◌+◌, ◌∙◌, refl, false, arith, rules, subst, ◌≤◌, length}
use Rattle.broker_model.specs.Words.{honest_before, goes_further}
use Rattle.soundness.proofs.WalkLemmas.{among_contained, contained_among, has_room, is_full, walked_entry, walked_full}
use Rattle.soundness.proofs.WalkLemmas.{walked_none, walked_so}
use Rattle.soundness.proofs.visiting.visit_each.Goals as goal

pub loop-entry-init : goal.loop-entry-init
loop-entry-init g c =
    record {
      same = λ honest. refl;
      number = omega arith;
      walked = λ honest can.
          walked_none (g.T.RecordsTx.seen c.args.tx.now).rows _ c.args.walk.now
          (λ e has. let low = has.1 in absurd (omega (arith, low)));
      goes_on = search rules;
    }

pub loop-entry-preserved : goal.loop-entry-preserved
loop-entry-preserved g c =
    let seen = g.T.RecordsTx.seen in
    let done = c.in_ok-visit_one.ensures in
    let first = (seen c.args.tx.now).rows in
    let so_many = c.loop-entry.invariant.number in
    let next : c.in-Some.next ≡ c.args.before + (c.loop-entry.entry-index + 1) =
    omega (arith, so_many, c.in-Some.ensures) in
    record {
      same = λ honest.
          let early = honest_before (seen c.loop-entry.tx) (seen c.visit_one.new.tx) false done.call.goes_on honest in
          done.call.same honest ∙ c.loop-entry.invariant.same early;
      number = next;
      walked = λ honest can.
          let early = honest_before (seen c.loop-entry.tx) (seen c.visit_one.new.tx) false done.call.goes_on honest in
          walked_entry first (seen c.loop-entry.tx).rows (c.loop-entry.invariant.same early) c.args.walk.now
          c.loop-entry.walk c.visit_one.new.walk c.args.entries.now c.loop-entry.entry-index
          c.loop-entry-test.true c.entry-item.result c.entry-item.is c.args.before c.in-Some.next next can
          (c.loop-entry.invariant.walked early can)
          (has_room c.loop-entry.walk c.is_full.result c.if-is_full.false c.is_full.ensures) (done.walked honest);
      goes_on = goes_further (seen c.args.tx.now) (seen c.loop-entry.tx) (seen c.visit_one.new.tx) false
          c.loop-entry.invariant.goes_on done.call.goes_on;
    }

pub returns-then-is_full-clause-walked : goal.returns-then-is_full-clause-walked
returns-then-is_full-clause-walked g c honest can =
    let so = c.loop-entry.invariant.walked honest can in
    walked_full (g.T.RecordsTx.seen c.args.tx.now).rows _ _ c.args.walk.now c.loop-entry.walk
    (among_contained c.loop-entry.entry-index c.args.entries.now)
    (subst (λ n. n ≤ length c.loop-entry.walk.troubles.items) so.most
    (is_full c.loop-entry.walk c.is_full.result c.if-is_full.true c.is_full.ensures)) so

pub returns-clause-walked : goal.returns-clause-walked
returns-clause-walked g c honest can =
    walked_so (g.T.RecordsTx.seen c.args.tx.now).rows _ _ c.args.walk.now c.loop-entry.walk
    (among_contained c.loop-entry.entry-index c.args.entries.now)
    (λ room e. contained_among c.loop-entry.entry-index c.args.entries.now e (omega (arith, c.loop-entry-test.false)))
    (c.loop-entry.invariant.walked honest can)

pub returns-then-is_full-clause-counted : goal.returns-then-is_full-clause-counted
returns-then-is_full-clause-counted g c honest can room =
    let full = is_full c.loop-entry.walk c.is_full.result c.if-is_full.true c.is_full.ensures in
    let most = (c.loop-entry.invariant.walked honest can).most in
    absurd (omega (arith, full, room, most))

pub returns-clause-counted : goal.returns-clause-counted
returns-clause-counted g c honest can room =
    let so_many = c.loop-entry.invariant.number in
    omega (arith, so_many, c.loop-entry-test.false, c.loop-entry.auto.entry-index-end)
