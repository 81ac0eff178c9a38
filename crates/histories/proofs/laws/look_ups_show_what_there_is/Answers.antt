use Rattle.histories.proofs.Shown.{answers_show}
use Rattle.histories.proofs.laws.look_ups_show_what_there_is.Goals as goal

pub returns : goal.returns
returns c =
    let accessors = c.accessors_name_their_tokens.ensures in
    answers_show c.operations_do_as_told.ensures accessors.named accessors.only
