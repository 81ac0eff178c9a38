use Rattle.std.proofs.Common.{◌≡◌}
use Rattle.serde_json.specs.View.{members_view}
use Rattle.command_line.specs.PolicyForms.{are_rule_members}
use Rattle.command_line.proofs.policy_form.other_rule_member.Given as goal

-- what is left decides
abbrev pub invariant-loop-name : goal.invariant-loop-name
invariant-loop-name l = are_rule_members (members_view l.name-iterator)
    ≡ are_rule_members (members_view l.members.entries)
