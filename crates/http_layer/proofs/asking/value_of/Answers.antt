use Rattle.broker_types.specs.Words.{◌∙◌, ℕ, List, ap, sym, Ok, Err, Some}
use Rattle.http_layer.proofs.AskedLemmas.{value_asked-no_text, value_asked-text}
use Rattle.http_layer.proofs.asking.value_of.Goals as goal

pub returns-in-Ok : goal.returns-in-Ok
returns-in-Ok c =
    value_asked-text _ _ c.in-Once.ensures c.in-Ok.ensures.cases.1
    ∙ ap (λ (v : List ℕ). Ok (Some v)) (sym c.in-Ok.ensures.cases.0)

pub returns-in-Err : goal.returns-in-Err
returns-in-Err c = value_asked-no_text _ _ c.in-Once.ensures c.in-Err.ensures.cases.0
    ∙ ap Err (sym c.bad_request-in-Err.ensures)
