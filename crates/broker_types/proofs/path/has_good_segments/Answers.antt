use Rattle.std.proofs.Common.{◌<◌, length, sym, ◌∙◌, arith}
use Rattle.broker_types.specs.Words.{nat_tests}
use Rattle.broker_types.proofs.Parts.{at_slash, at_other}
use Rattle.broker_types.proofs.path.has_good_segments.Goals as goal
use Rattle.broker_types.proofs.path.has_good_segments.Goals.{then-byte-eq47+else-not-is_good_segment, else-byte-eq47}

pub loop-i-preserved : goal.loop-i-preserved
loop-i-preserved c =
    let s = c.args.text.now in
    let i = c.loop-i.i in
    let old = c.loop-i.start in
    let within : i < length s = omega arith in
    elim c.if-byte-eq47.branch [
      | then-byte-eq47+else-not-is_good_segment w ↦ record {
        rest = rw w.start-is (sym (at_slash s old i within w.if-byte-eq47.true (sym w.if-not-is_good_segment.ensures))
            ∙ c.loop-i.invariant.rest);
        order = omega arith;
      }
      | else-byte-eq47 w ↦ record {
        rest = rw w.start-is (sym (at_other s old i c.loop-i.invariant.order within (grind (arith, nat_tests)))
            ∙ c.loop-i.invariant.rest);
        order = omega arith;
      }
    ]
