use Rattle.broker_model.specs.Words.{None, ap, ◌∙◌, id, plain_reply, names_of, reply}
use Rattle.broker_rows.specs.Words.{Context}
use Rattle.broker_rows.proofs.answered.Answered.shown.Goals as goal

pub returns : goal.returns
unfolding names_of
returns c =
    ap (λ r. reply r None)
    (c.in_ok-plain_reply.ensures ∙ ap (λ q. plain_reply q c.args.object)
    (c.as_str.ensures.value ∙ c.in_ok-request.ensures ∙ ap id c.request.ensures)
    ∙ ap (λ (x : Context). plain_reply (names_of x.words).request c.args.object) c.context.view_is)
