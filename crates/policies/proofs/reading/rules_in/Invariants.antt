use Rattle.std.proofs.Common.{◌≡◌}
use Rattle.serde_json.specs.View.{members_view}
use Rattle.api_json.proofs.Gathering.{onto}
use Rattle.policies.specs.Words.{rules_in}
use Rattle.policies.proofs.reading.rules_in.Given as goal

abbrev pub invariant-loop-pattern : goal.invariant-loop-pattern
invariant-loop-pattern l = onto l.rules.items (rules_in (members_view l.pattern-iterator))
    ≡ rules_in (members_view l.paths.entries)
