use Rattle.command_line.proofs.SubcommandLemmas.{taken}
use Rattle.command_line.proofs.subcommands.lasting_token.Goals as goal

pub returns : goal.returns
returns c =
    let one = taken _ _ _ _ _ c.taking-command.ensures c.alone.ensures
    c.repeated_option.ensures.local c.repeated_option.ensures.rule in
    let two = taken _ _ _ _ _ c.taking-command-2.ensures one c.option.ensures.local c.option.ensures.rule in
    taken _ _ _ _ _ c.taking.ensures two c.option-2.ensures.local c.option-2.ensures.rule
