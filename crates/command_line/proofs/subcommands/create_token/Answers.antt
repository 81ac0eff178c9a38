use Rattle.command_line.proofs.SubcommandLemmas.{taken}
use Rattle.command_line.proofs.subcommands.create_token.Goals as goal

pub returns : goal.returns
returns c =
    let one = taken _ _ _ _ _ c.taking-command.ensures c.lasting_token.ensures
    c.option.ensures.local c.option.ensures.rule in
    taken _ _ _ _ _ c.taking.ensures one c.flag.ensures.local c.flag.ensures.rule
