use Rattle.std.proofs.Common.{◌≡◌, ◌<◌, ◌∷◌, ◌++◌, [], ◌∙◌, List, ℕ, ap, get_or, length, slice_range, subst, sym}
use Rattle.std.proofs.Common.{arith, rules}
use Rattle.std.proofs.lemmas.Grind.{common_steps}
use Rattle.server.specs.Hiding.{HidesTokens, hidden, hidden_segment}
use Rattle.server.proofs.HidingLemmas.{at_boundary, at_inner, hides}
use Rattle.server.proofs.hiding.hide_segments.Goals as goal
use Rattle.server.proofs.hiding.hide_segments.Goals.{then-is_boundary+in_ok-push_hidden+in_ok-push, else-is_boundary}

pub loop-i-preserved : goal.loop-i-preserved
loop-i-preserved c =
    let s = c.args.line.now in
    let i = c.loop-i.i in
    let start = c.loop-i.start in
    let shown = c.loop-i.shown.items in
    let within : i < length s = omega arith in
    elim c.if-is_boundary.branch [
      | then-is_boundary+in_ok-push_hidden+in_ok-push w ↦ record {
        rest =
            let added : w.push.new.self.items ≡ (shown ++ hidden_segment (slice_range s start i)) ++ get_or s i 0 ∷ [] =
            search rules in
            rw (w.start-is, w.shown-is, added)
            (sym (at_boundary s shown start i within (sym c.is_boundary.ensures ∙ w.if-is_boundary.true))
            ∙ c.loop-i.invariant.rest);
        order = omega arith;
      }
      | else-is_boundary w ↦ record {
        rest = rw (w.start-is, w.shown-is)
            (sym (ap (λ (l : List ℕ). shown ++ l) (at_inner s start i c.loop-i.invariant.order within
            (sym c.is_boundary.ensures ∙ w.if-is_boundary.false))) ∙ c.loop-i.invariant.rest);
        order = omega arith;
      }
    ]

pub returns-clause-hides : goal.returns-clause-hides
returns-clause-hides c =
    let exact : c.push_hidden-2.new.shown.items ≡ hidden [] c.args.line.now =
    grind (arith, common_steps) in
    subst HidesTokens (sym exact) (hides c.args.line.now)
