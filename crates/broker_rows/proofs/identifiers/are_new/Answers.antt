use Rattle.broker_model.specs.Words.{◌∙◌, IfOk-weaker}
use Rattle.broker_rows.proofs.UsedIdentifiers.{unmarked_new}
use Rattle.broker_rows.proofs.identifiers.are_new.Goals as goal

pub returns-clause-told : goal.returns-clause-told
returns-clause-told g c honest who b st =
    IfOk-weaker c.are_unmarked.result _ _
    (λ v is. is ∙ unmarked_new b (g.T.RecordsTx.seen c.args.tx.now).rows c.args.identifiers.now st)
    (c.are_unmarked.ensures.found honest)
