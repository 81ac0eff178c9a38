use Rattle.std.proofs.Common.{false, subst, sym, ◌∙◌, arith}
use Rattle.std.proofs.lemmas.Bool.Decides.{nat_tests}
use Rattle.std.proofs.lemmas.List.{nil_from_length}
use Rattle.records.specs.CallLaws.{goes_further, honest_before}
use Rattle.soundness.specs.Laws.{AreOfABroker}
use Rattle.salvage.proofs.salvaging.salvage.Goals as goal

pub loop-preserved : goal.loop-preserved
loop-preserved g c =
    let seen = g.T.RecordsTx.seen in
    let read = c.in_ok-troubles.ensures.call in
    let did = c.in_ok-mend_each.ensures in
    let first = (seen c.args.tx.now).rows in
    record {
      rows = λ honest.
          let after = honest_before (seen c.check_all.new.tx) (seen c.mend_each.new.tx) false did.call.goes_on honest in
          let before = honest_before (seen c.loop.tx) (seen c.check_all.new.tx) false read.goes_on after in
          did.rows honest first (read.same after ∙ c.loop.invariant.rows before);
      goes_on = goes_further (seen c.args.tx.now) (seen c.check_all.new.tx) (seen c.mend_each.new.tx) false
          (goes_further (seen c.args.tx.now) (seen c.loop.tx) (seen c.check_all.new.tx) false
          c.loop.invariant.goes_on read.goes_on) did.call.goes_on;
    }

pub returns-then-is_empty-clause-sound : goal.returns-then-is_empty-clause-sound
returns-then-is_empty-clause-sound g c honest =
    let read = c.in_ok-troubles.ensures in
    subst AreOfABroker (sym (read.call.same honest))
    (read.sound honest (omega arith)
    (nil_from_length c.in_ok-troubles.troubles.items (grind (arith, nat_tests, c.if-is_empty.ensures))))
