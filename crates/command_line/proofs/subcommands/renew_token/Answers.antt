use Rattle.command_line.proofs.SubcommandLemmas.{taken}
use Rattle.command_line.proofs.subcommands.renew_token.Goals as goal

pub returns : goal.returns
returns c =
    taken _ _ _ _ _ c.taking.ensures c.alone.ensures c.flag.ensures.local c.flag.ensures.rule
