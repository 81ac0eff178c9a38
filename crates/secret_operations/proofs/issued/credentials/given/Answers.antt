use Rattle.broker_model.specs.Words.{None, Some, ap, ◌∙◌, id, lease_reply, names_of, Reply}
use Rattle.broker_types.specs.Operation as operation
use Rattle.broker_rows.specs.Words.{Context}
use Rattle.secret_operations.proofs.issued.credentials.given.Goals as goal

pub returns : goal.returns
unfolding names_of
returns c =
    let request = c.as_str.ensures.value ∙ c.in_ok-request.ensures ∙ ap id c.request.ensures
    ∙ ap (λ (x : Context). (names_of x.words).request) c.context.view_is in
    ap (λ (r : Reply). operation.reply r None)
    (c.in_ok-reply.ensures
    ∙ (λ i. lease_reply (request i) (c.lease.view_is i).0 (c.lease.view_is i).1 (Some (c.in_ok-object.ensures i))))
