use Rattle.std.proofs.Common.{◌≡◌, ◌<◌, ◌∷◌, ◌++◌, [], ◌∙◌, List, ℕ, ap, length, slice_range, sym, arith, rules}
use Rattle.records.specs.Words.{nat_tests}
use Rattle.server.specs.LogLine.{shown_segment}
use Rattle.server.proofs.LogLemmas.{at_other, at_slash}
use Rattle.server.proofs.log_line.shown.Goals as goal
use Rattle.server.proofs.log_line.shown.Goals.{then-byte-eq47+in_ok-push_segment+in_ok-push, else-byte-eq47}

pub loop-i-preserved : goal.loop-i-preserved
loop-i-preserved c =
    let s = c.args.path.now in
    let i = c.loop-i.i in
    let start = c.loop-i.start in
    let shown = c.loop-i.shown.items in
    let within : i < length s = omega arith in
    elim c.if-byte-eq47.branch [
      | then-byte-eq47+in_ok-push_segment+in_ok-push w ↦ record {
        rest =
            let added : w.push.new.self.items ≡ (shown ++ shown_segment (slice_range s start i)) ++ 47 ∷ [] =
            search rules in
            rw (w.start-is, w.shown-is, added)
            (sym (at_slash s shown start i within w.if-byte-eq47.true) ∙ c.loop-i.invariant.rest);
        order = omega arith;
      }
      | else-byte-eq47 w ↦ record {
        rest = rw (w.start-is, w.shown-is)
            (sym (ap (λ (l : List ℕ). shown ++ l) (at_other s start i c.loop-i.invariant.order within
            (grind (arith, nat_tests)))) ∙ c.loop-i.invariant.rest);
        order = omega arith;
      }
    ]
