use Rattle.broker_model.specs.Words.{sym}
use Rattle.system_operations.proofs.token_leases.act_on_leases.Goals as goal

pub returns-in-Revoke-clause-told : goal.returns-in-Revoke-clause-told
returns-in-Revoke-clause-told g c who =
    let told = c.revoke.ensures.told who c.args.context.now in
    rw c.in-Revoke.is (rw (sym c.as_str.ensures) told)

pub returns-in-RevokeUnder-clause-told : goal.returns-in-RevokeUnder-clause-told
returns-in-RevokeUnder-clause-told g c who =
    let told = c.revoke_under.ensures.told who c.args.context.now in
    rw c.in-RevokeUnder.is told
