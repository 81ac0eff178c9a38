use Rattle.broker_model.specs.Words.{IfOk, ap, subst, sym, ◌∙◌, names_of, wrap_200}
use Rattle.broker_types.specs.Operation as operation
use Rattle.broker_rows.specs.Words.{answered_of}
use Rattle.broker_rows.specs.declared.answered.Answered.{Answered}
use Rattle.broker.specs.Stages.{IsServed}
use Rattle.broker.proofs.order.wrap.wrap.Goals as goal

pub returns-in-Given-clause-told : goal.returns-in-Given-clause-told
returns-in-Given-clause-told g c honest who b own d may done =
    let new = (g.T.RecordsTx.seen c.keep.new.tx).rows in
    let names = names_of c.args.context.now.words in
    subst (λ (a : operation.Answered). IfOk c.keep.result
    (λ x. IsServed who new x (wrap_200 b c.args.wrapping.now.path c.args.wrapping.now.ttl names d a)))
    (ap answered_of (sym c.in-Given.is) ∙ done.0) (c.keep.ensures.told honest who b own d may done.1)

pub returns-in-Made-clause-told : goal.returns-in-Made-clause-told
returns-in-Made-clause-told g c honest who b own d may done =
    let new = (g.T.RecordsTx.seen c.keep-in-Made.new.tx).rows in
    let names = names_of c.args.context.now.words in
    subst (λ (a : operation.Answered). IfOk c.keep-in-Made.result
    (λ x. IsServed who new x (wrap_200 b c.args.wrapping.now.path c.args.wrapping.now.ttl names d a)))
    (ap answered_of (sym c.in-Made.is) ∙ done.0) (c.keep-in-Made.ensures.told honest who b own d may done.1)
