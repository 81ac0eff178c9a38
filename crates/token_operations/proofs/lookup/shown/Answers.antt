use Rattle.broker_model.specs.Words.{None, ap, ◌∙◌, IfOk-weaker, names_of, reply, token_object, plain_reply, looked_up}
use Rattle.broker_rows.specs.Words.{Context}
use Rattle.token_operations.proofs.lookup.shown.Goals as goal

pub returns : goal.returns
returns c =
    let token =
    c.in_ok-token.ensures ∙ ap (λ (x : Context). looked_up x.clock c.args.id.now c.args.found) c.context.view_is in
    IfOk-weaker c.shown.result _ _
    (λ a is. is ∙ ap (λ o. reply (plain_reply (names_of c.args.context.now.words).request o) None)
    (c.in_ok-object.ensures ∙ ap token_object token))
    c.shown.ensures
