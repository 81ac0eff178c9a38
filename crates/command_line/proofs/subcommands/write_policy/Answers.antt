use Rattle.command_line.proofs.SubcommandLemmas.{taken}
use Rattle.command_line.proofs.subcommands.write_policy.Goals as goal

pub returns : goal.returns
returns c =
    taken _ _ _ _ _ c.taking.ensures c.on_policy.ensures c.wanted_value.ensures.local c.wanted_value.ensures.rule
