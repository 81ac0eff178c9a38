use Rattle.command_line.proofs.SubcommandLemmas.{taken}
use Rattle.command_line.proofs.subcommands.renew_lease.Goals as goal

pub returns : goal.returns
returns c =
    let one = taken _ _ _ _ _ c.taking-command.ensures c.alone.ensures c.lease.ensures.local c.lease.ensures.rule in
    taken _ _ _ _ _ c.taking.ensures one c.option.ensures.local c.option.ensures.rule
