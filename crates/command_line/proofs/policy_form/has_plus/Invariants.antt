use Rattle.std.proofs.Common.{◌≡◌, ◌∷◌, [], map}
use Rattle.std.specs.Prelude.{bytes_eq}
use Rattle.std.specs.List.{list_any}
use Rattle.command_line.proofs.policy_form.has_plus.Given as goal

abbrev pub invariant-loop-part : goal.invariant-loop-part
invariant-loop-part l = l.found ≡ list_any (λ part. bytes_eq part (43 ∷ [])) (map (λ x. x.now) l.yielded)
