use Rattle.histories.specs.Words.{unwrapped_body}
use Rattle.histories.proofs.Lasting.{asked_keeps, evolved_since, kept_evolves}
use Rattle.histories.proofs.Requests.{history_keeps}
use Rattle.histories.proofs.laws.requests_evolve.Goals as goal

pub returns-clause-each : goal.returns-clause-each
returns-clause-each c b history i a h at =
    kept_evolves unwrapped_body a
    (asked_keeps unwrapped_body b history i a (history_keeps c.operations_do_as_told.ensures b history h) at)

pub returns-clause-between : goal.returns-clause-between
returns-clause-between c b history i j a x h one other lt =
    evolved_since unwrapped_body b history i j a x (history_keeps c.operations_do_as_told.ensures b history h) one
    other lt
