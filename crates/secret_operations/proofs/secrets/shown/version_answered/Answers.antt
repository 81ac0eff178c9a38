use Rattle.broker_model.specs.Words.{sym, ap, ◌∙◌, is_some, id, secret_object, plain_reply, names_of, Found}
use Rattle.broker_model.specs.Words.{version_answered}
use Rattle.broker_rows.specs.Words.{Context}
use Rattle.secret_operations.proofs.SecretAnswers.{answered_left, answered_gone}
use Rattle.secret_operations.proofs.secrets.shown.version_answered.Goals as goal

pub returns-then-is_left : goal.returns-then-is_left
unfolding names_of
returns-then-is_left c =
    let found = c.found.inside in
    let v : Found =
    record { number = found.number; version = found.version; custom_metadata = found.custom_metadata.items } in
    let request = (names_of c.args.context.now.words).request in
    answered_left request v c.in_ok-reply.reply
    (c.in_ok-reply.ensures
    ∙ (λ i. plain_reply ((c.as_str.ensures.value ∙ c.in_ok-request.ensures ∙ ap id c.request.ensures
    ∙ ap (λ (x : Context). (names_of x.words).request) c.context.view_is) i)
    ((c.in_ok-payload.ensures ∙ (λ j. secret_object (c.object_left-object.ensures j) (c.as_slice.ensures.value j)
    (c.version_shown-metadata.ensures j))) i)))
    (sym (c.is_some-is_left.ensures ∙ ap is_some c.object_left-object.ensures) ∙ c.if-is_left.true)
    ∙ ap (version_answered request) c.found.view_is

pub returns : goal.returns
unfolding names_of
returns c =
    let found = c.found.inside in
    let v : Found =
    record { number = found.number; version = found.version; custom_metadata = found.custom_metadata.items } in
    let request = (names_of c.args.context.now.words).request in
    answered_gone request v c.in_ok-reply.reply
    (c.in_ok-reply.ensures
    ∙ (λ i. plain_reply ((c.as_str.ensures.value ∙ c.in_ok-request.ensures ∙ ap id c.request.ensures
    ∙ ap (λ (x : Context). (names_of x.words).request) c.context.view_is) i)
    ((c.in_ok-payload.ensures ∙ (λ j. secret_object (c.object_left-object.ensures j) (c.as_slice.ensures.value j)
    (c.version_shown-metadata.ensures j))) i)))
    (sym (c.is_some-is_left.ensures ∙ ap is_some c.object_left-object.ensures) ∙ c.if-is_left.false)
    ∙ ap (version_answered request) c.found.view_is
