use Rattle.command_line.proofs.SubcommandLemmas.{taken}
use Rattle.command_line.proofs.parser.time_options.Goals as goal

pub returns : goal.returns
returns c =
    λ a zero.
    let one = taken _ _ _ _ _ c.taking-client.ensures zero c.option.ensures.local c.option.ensures.rule in
    let two = taken _ _ _ _ _ c.taking-client-2.ensures one c.option-2.ensures.local c.option-2.ensures.rule in
    taken _ _ _ _ _ c.taking.ensures two c.flag.ensures.local c.flag.ensures.rule
