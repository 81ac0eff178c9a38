use Rattle.command_line.proofs.SubcommandLemmas.{taken}
use Rattle.command_line.proofs.subcommands.revoke_lease.Goals as goal

pub returns : goal.returns
returns c =
    taken _ _ _ _ _ c.taking.ensures c.alone.ensures c.lease.ensures.local c.lease.ensures.rule
