use Rattle.command_line.proofs.SubcommandLemmas.{taken}
use Rattle.command_line.proofs.parser.request_options.Goals as goal

pub returns : goal.returns
returns c =
    let one = taken _ _ _ _ _ c.taking-client.ensures c.named.ensures
    c.wanted_option.ensures.local c.wanted_option.ensures.rule in
    let two = taken _ _ _ _ _ c.taking-client-2.ensures one c.option.ensures.local c.option.ensures.rule in
    taken _ _ _ _ _ c.taking.ensures two c.option-2.ensures.local c.option-2.ensures.rule
