use Rattle.command_line.proofs.SubcommandLemmas.{taken}
use Rattle.command_line.proofs.subcommands.unwrap.Goals as goal

pub returns : goal.returns
returns c =
    taken _ _ _ _ _ c.taking.ensures c.alone.ensures c.value.ensures.local c.value.ensures.rule
