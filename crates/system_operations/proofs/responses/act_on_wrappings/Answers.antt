use Rattle.broker_model.specs.Words.{sym}
use Rattle.system_operations.proofs.responses.act_on_wrappings.Goals as goal

pub returns-in-Unwrap-Some-clause-told : goal.returns-in-Unwrap-Some-clause-told
returns-in-Unwrap-Some-clause-told g c who =
    let told = c.unwrap.ensures.told who c.args.context.now in
    rw (c.in-Unwrap-Some.is, c.in-Unwrap-Some.field-0-is) (rw (sym c.as_str-in-Unwrap-Some.ensures) told)
