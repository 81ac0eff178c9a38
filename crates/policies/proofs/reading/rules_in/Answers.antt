use Rattle.records.specs.Words.{sym, ap, ◌∙◌, string_bytes}
use Rattle.serde_json.specs.View.{view, members_view}
use Rattle.api_json.proofs.Gathering.{one_more}
use Rattle.policies.specs.Words.{rule_in, rules_in}
use Rattle.policies.proofs.reading.rules_in.Goals as goal

pub loop-pattern-preserved : goal.loop-pattern-preserved
loop-pattern-preserved c =
    let value = view c.in-Some.value.now in
    one_more c.loop-pattern.rules.items c.push.new.self.items c.in-Some-2.rule
    (rule_in (string_bytes c.in-Some.pattern.now) value) (rules_in (members_view c.next.new.self))
    (rules_in (members_view c.loop-pattern.pattern-iterator)) (rules_in (members_view c.args.paths.now.entries))
    c.in_ok-push-in-Some-2.ensures.items
    (sym (c.in_ok-rule.ensures ∙ ap (λ s. rule_in s value) c.as_str.ensures.value) ∙ c.in-Some-2.is)
    (ap (λ ms. rules_in (members_view ms)) c.in-Some.ensures.steps) c.loop-pattern.invariant
