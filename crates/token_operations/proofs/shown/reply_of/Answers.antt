use Rattle.broker_model.specs.Words.{false, Some, None, ◌∙◌, ap, id, names_of, auth_object}
use Rattle.broker_rows.specs.Words.{Context}
use Rattle.token_operations.proofs.shown.reply_of.Goals as goal

pub returns : goal.returns
unfolding names_of
returns c now t x is =
    λ i. record {
      auth = Some ((c.in_ok-auth.ensures ∙ ap auth_object is) i);
      payload = None;
      lease_duration = 0;
      lease_id = (c.new-2.ensures ∙ c.new.ensures.bytes) i;
      renewable = false;
      request_id = (c.new-3.ensures ∙ c.in_ok-request.ensures ∙ ap id c.request.ensures
          ∙ ap (λ (x : Context). (names_of x.words).request) c.context.view_is) i;
      wrap_info = None;
    }
