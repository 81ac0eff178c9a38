use Rattle.std.proofs.Common.{◌≡◌}
use Rattle.serde_json.specs.View.{members_view}
use Rattle.command_line.specs.PolicyForms.{are_rules}
use Rattle.command_line.proofs.policy_form.wrong_in_rules.Given as goal

-- what is left decides
abbrev pub invariant-loop-pattern : goal.invariant-loop-pattern
invariant-loop-pattern l = are_rules (members_view l.pattern-iterator) ≡ are_rules (members_view l.rules.entries)
