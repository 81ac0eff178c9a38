use Rattle.command_line.proofs.SubcommandLemmas.{taken}
use Rattle.command_line.proofs.parser.options.Goals as goal

pub returns : goal.returns
returns c =
    let one = taken _ _ _ _ _ c.taking-client.ensures c.request_options.ensures
    c.option.ensures.local c.option.ensures.rule in
    let two = taken _ _ _ _ _ c.taking-client-2.ensures one c.option-2.ensures.local c.option-2.ensures.rule in
    c.time_options.ensures _ two
