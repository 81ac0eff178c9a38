use Rattle.command_line.proofs.SubcommandLemmas.{taken}
use Rattle.command_line.proofs.subcommands.write.Goals as goal

pub returns : goal.returns
returns c =
    taken _ _ _ _ _ c.taking.ensures c.on_path.ensures c.values.ensures.local c.values.ensures.rule
