use Rattle.std.proofs.Common.{◌≡◌, ◌≢◌, List, None, Some, true, false, rules, sym, ◌∙◌, ap, subst}
use Rattle.broker_model.specs.Words.{same_Some, err_from_is_err_and, get, Text, honest_before, is_object, rules_of}
use Rattle.broker_model.specs.Words.{asked_by, has_stored, may, Broker, IsHonest, route_of}
use Rattle.broker_model.specs.Capabilities.{asked}
use Rattle.broker_rows.specs.Words.{AreRulesAt, Caller, IsCallerOf, Represents, named_policies_there, still_represented}
use Rattle.broker.proofs.Permitted.{permitted_told, rules_before}
use Rattle.broker.proofs.StepParts.{entry_here}
use Rattle.broker.proofs.order.permission.permitted.Goals as goal
use Rattle.broker.proofs.order.permission.permitted.Goals.{After-may}

pub returns-in_err-rules-clause-wants : goal.returns-in_err-rules-clause-wants
returns-in_err-rules-clause-wants g c honest b st =
    let seen = g.T.RecordsTx.seen in
    let p = err_from_is_err_and c.from_residual-in_err-rules.result c.from_residual-in_err-rules.ensures.1 in
    let mid = honest_before (seen c.capability.new.tx)
    (seen c.rules_of.new.tx) _ c.in_err-rules.ensures.call.goes_on honest in
    let still = still_represented b (seen c.args.tx.now).rows (seen c.capability.new.tx).rows
    (c.in_ok-asked.ensures.call.same mid) st in
    rw (p.1, p.2) (c.in_err-rules.ensures.wants honest is_object b.policies still.sound.policies
    (named_policies_there b (seen c.capability.new.tx).rows c.deref.result.now still))

-- ---- whether the caller may ask

-- what it asks for, and what its policies say
heard : (g : _) (c : goal.After-may g) → IsHonest (g.T.RecordsTx.seen c.rules_of.new.tx) → (b : Broker)
    → Represents (Some c.args.caller.now.token) (g.T.RecordsTx.seen c.args.tx.now).rows b
    → IsCallerOf b c.args.caller.now
    → c.args.found.now ≡ route_of b.mounts c.args.ask.now.verb c.args.ask.now.path
    → (c.in_ok-asked.asked ≡ asked b c.args.caller.now.token c.args.ask.now.verb c.args.ask.now.path)
    × (c.in_ok-rules.rules ≡ rules_of b.policies c.args.caller.now.known.policies c.args.ask.now.verb)
heard g c honest b st caller routed =
    let seen = g.T.RecordsTx.seen in
    let old = (seen c.args.tx.now).rows in
    let verb = c.args.ask.now.verb in
    let who = c.args.caller.now in
    let mid = honest_before (seen c.capability.new.tx)
    (seen c.rules_of.new.tx) _ c.in_ok-rules.ensures.call.goes_on honest in
    let token = (λ i. (c.caller-inside.view_is i).token.now) ∙ ap (λ (x : Caller). x.token) c.caller.view_is in
    let names = c.deref.ensures.value ∙ (λ i. (c.caller-inside.view_is i).known.policies)
    ∙ ap (λ (x : Caller). x.known.policies) c.caller.view_is in
    let still = still_represented b old (seen c.capability.new.tx).rows (c.in_ok-asked.ensures.call.same mid) st in (
      c.in_ok-asked.ensures.told mid b (subst (λ (t : Text). Represents (Some t) old b) (sym token) st)
          (subst (λ (t : Text). get b.tokens t ≢ None) (sym token) (entry_here b who caller))
          ∙ ap (λ (t : Text). asked_by (has_stored b t) verb c.args.found.now) token
          ∙ ap (asked_by (has_stored b who.token) verb) routed,
      c.in_ok-rules.ensures.told honest b.policies
          (named_policies_there b (seen c.capability.new.tx).rows c.deref.result.now still)
          ∙ ap (λ (ns : List Text). rules_of b.policies ns verb) names,
    )

pub returns-clause-told : goal.returns-clause-told
returns-clause-told g c honest b st caller routed =
    let told = heard g (goal.at.returns-clause-told g c).After-may honest b st caller routed in
    permitted_told b c.args.caller.now c.args.ask.now.verb c.args.ask.now.path c.in_ok-asked.asked c.in_ok-rules.rules
    true caller told.0 told.1 (c.if-not-may.ensures
    ∙ ap (λ (p : Text). may c.in_ok-rules.rules p c.in_ok-asked.asked) c.as_str-path.ensures.text)

pub returns-then-not-may-clause-told : goal.returns-then-not-may-clause-told
returns-then-not-may-clause-told g c honest b st caller routed =
    let told = heard g (goal.at.returns-then-not-may-clause-told g c).After-may honest b st caller routed in
    permitted_told b c.args.caller.now c.args.ask.now.verb c.args.ask.now.path c.in_ok-asked.asked c.in_ok-rules.rules
    false caller told.0 told.1 (c.if-not-may.ensures
    ∙ ap (λ (p : Text). may c.in_ok-rules.rules p c.in_ok-asked.asked) c.as_str-path.ensures.text)

-- ---- what its policies say

pub returns-clause-rules : goal.returns-clause-rules
returns-clause-rules g c honest =
    let seen = g.T.RecordsTx.seen in
    let old = (seen c.args.tx.now).rows in
    let mid = honest_before (seen c.capability.new.tx)
    (seen c.rules_of.new.tx) _ c.in_ok-rules.ensures.call.goes_on honest in
    let names = c.deref.ensures.value ∙ (λ i. (c.caller-inside.view_is i).known.policies)
    ∙ ap (λ (x : Caller). x.known.policies) c.caller.view_is in
    let rules = rules_before old (seen c.capability.new.tx).rows c.deref.result.now c.args.caller.now.known.policies
    c.args.ask.now.verb c.in_ok-rules.rules
    (c.in_ok-asked.ensures.call.same mid) names
    (c.in_ok-rules.ensures.told honest) in
    λ x is. subst (AreRulesAt old c.args.caller.now.known.policies c.args.ask.now.verb) (same_Some _ _ is) rules
