use Rattle.system_operations.proofs.mounted_engines.act_on_mounts.Goals as goal

pub returns-in-Enable-clause-told : goal.returns-in-Enable-clause-told
returns-in-Enable-clause-told g c who =
    let told = c.enable.ensures.told who c.args.context.now in
    rw c.in-Enable.is told

pub returns-in-Disable-clause-told : goal.returns-in-Disable-clause-told
returns-in-Disable-clause-told g c who =
    let told = c.disable.ensures.told who c.args.context.now in
    rw c.in-Disable.is told
