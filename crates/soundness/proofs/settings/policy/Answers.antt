use Rattle.broker_model.specs.Words.{refl, IsShortText, policy_row}
use Rattle.soundness.proofs.ReadLemmas.{unread, fails}
use Rattle.soundness.proofs.settings.policy.Goals as goal

pub returns-in_default-clause-broken : goal.returns-in_default-clause-broken
returns-in_default-clause-broken c = λ rows. unread IsShortText policy_row c.args.row.now _ c.in_default.ensures _ refl

pub returns-then-not-is_policy_name-clause-broken : goal.returns-then-not-is_policy_name-clause-broken
returns-then-not-is_policy_name-clause-broken c = λ rows named.
    fails c.is_policy_name.result c.if-not-is_policy_name.true
    (λ n. c.is_policy_name.ensures.whole named.0 named.1) named

pub returns-then-not-branch-clause-broken : goal.returns-then-not-branch-clause-broken
returns-then-not-branch-clause-broken c = λ rows.
    let read = c.in-Ok.ensures.exact in (
      c.in-Ok.text.now,
      (read.0, fails c.in_ok-is_policy.field-0 c.if-not-branch.true c.in_ok-is_policy.ensures.whole),
      read.1,
    )
