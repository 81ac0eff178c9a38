use Rattle.broker_model.specs.Words.{◌∙◌, ap, auth_of}
use Rattle.broker_rows.specs.Words.{Context}
use Rattle.token_operations.proofs.shown.auth_reply.Goals as goal

pub returns : goal.returns
returns c =
    c.reply_of.ensures c.args.context.now.clock c.args.text c.args.token
    (c.auth_of.ensures ∙ ap (λ (x : Context). auth_of x.clock c.args.text c.args.token) c.context.view_is)
