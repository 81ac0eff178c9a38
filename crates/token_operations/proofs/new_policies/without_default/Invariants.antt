use Rattle.std.proofs.Common.{◌≡◌, ◌++◌, drop}
use Rattle.broker_model.specs.parts.TokenCreation as part
use Rattle.token_operations.proofs.new_policies.without_default.Given as goal

abbrev pub invariant-loop-policy : goal.invariant-loop-policy
invariant-loop-policy l = l.rest.items ++ part.without_default (drop l.policy-index l.policies)
    ≡ part.without_default l.policies
