use Rattle.broker_model.specs.Words.{refl, IsRoleInRange, role_row}
use Rattle.soundness.proofs.ReadLemmas.{unread, fails}
use Rattle.soundness.proofs.settings.role.Goals as goal

pub returns-then-not-is_role_name-clause-broken : goal.returns-then-not-is_role_name-clause-broken
returns-then-not-is_role_name-clause-broken c = λ rows.
    fails c.is_role_name.result c.if-not-is_role_name.true c.is_role_name.ensures.whole

pub returns-in-Err-clause-broken : goal.returns-in-Err-clause-broken
returns-in-Err-clause-broken c = λ rows. unread IsRoleInRange role_row c.args.row.now _ c.in-Err.ensures _ refl
