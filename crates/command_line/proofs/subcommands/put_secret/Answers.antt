use Rattle.command_line.proofs.SubcommandLemmas.{taken}
use Rattle.command_line.proofs.subcommands.put_secret.Goals as goal

pub returns : goal.returns
returns c =
    let one = taken _ _ _ _ _ c.taking-command.ensures c.on_path.ensures
    c.wanted_values.ensures.local c.wanted_values.ensures.rule in
    taken _ _ _ _ _ c.taking.ensures one c.option.ensures.local c.option.ensures.rule
