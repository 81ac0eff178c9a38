use Rattle.std.proofs.Common.{◌≡◌, drop}
use Rattle.serde_json.specs.View.{items_view}
use Rattle.command_line.specs.PolicyForms.{are_capabilities}
use Rattle.command_line.proofs.policy_form.other_item.Given as goal

-- what is left decides
abbrev pub invariant-loop-index : goal.invariant-loop-index
invariant-loop-index l = are_capabilities (items_view (drop l.index l.item-items))
    ≡ are_capabilities (items_view l.item-items)
