use Rattle.broker_model.specs.Words.{sym}
use Rattle.system_operations.proofs.acl_policies.act_on_policies.Goals as goal

pub returns-in-Set-clause-told : goal.returns-in-Set-clause-told
returns-in-Set-clause-told g c who =
    let told = c.set.ensures.told who c.args.context.now in
    rw c.in-Set.is (rw (sym c.as_str.ensures) told)

pub returns-in-Remove-clause-told : goal.returns-in-Remove-clause-told
returns-in-Remove-clause-told g c who =
    let told = c.remove.ensures.told who c.args.context.now in
    rw c.in-Remove.is told
