use Rattle.broker_model.specs.Words.{None, ap, sym, ◌∙◌, id, wrap_object, wrap_reply, Waiting, names_of, reply}
use Rattle.broker_rows.specs.Words.{Context}
use Rattle.broker.proofs.order.wrap.told.Goals as goal

pub returns : goal.returns
unfolding names_of
returns c =
    let request = c.as_str.ensures.value ∙ c.in_ok-request.ensures ∙ ap id c.request.ensures
    ∙ ap (λ (x : Context). (names_of x.words).request) c.context.view_is in
    let accessor = c.in_ok-copied.ensures ∙ ap (λ (w : Waiting). w.accessor) c.response.view_is in
    let path = c.in_ok-copied-2.ensures ∙ ap (λ (w : Waiting). w.path) c.response.view_is in
    let ttl = ap (λ (w : Waiting). w.ttl) c.response.view_is in
    let created = ap (λ (x : Context). x.clock) c.context.view_is ∙ sym c.requires in
    let info = c.in_ok-info.ensures ∙ (λ i. wrap_object (record {
      accessor = accessor i;
      creation_path = path i;
      created = created i;
      token = c.args.token;
      ttl = ttl i;
      wrapped_accessor = c.args.made;
    })) in
    (λ i. reply (c.in_ok-wrap_reply.ensures i) None) ∙ (λ i. reply (wrap_reply (request i) (info i)) None)
