use Rattle.broker_types.proofs.answer.body_of.Goals as goal

pub returns-in-MethodNotAllowed : goal.returns-in-MethodNotAllowed
returns-in-MethodNotAllowed c = rw c.in-MethodNotAllowed.is c.errors_body-in-MethodNotAllowed.ensures

pub returns-in-IdentifierUsed : goal.returns-in-IdentifierUsed
returns-in-IdentifierUsed c = rw c.in-IdentifierUsed.is c.errors_body-in-IdentifierUsed.ensures
