use Rattle.std.proofs.Common.{◌≡◌, None, ap, sym, subst, ◌∙◌}
use Rattle.broker_model.specs.Words.{Waiting, IsNew, names_of, reply, token_identifier, IsSoundWaiting, token_text}
use Rattle.broker_model.specs.Words.{waiting_in_range, rows_of, reply_text, wrap_reply, wrap_info}
use Rattle.broker_rows.specs.Words.{counted}
use Rattle.broker.specs.Wraps.{Wrapping, kept_in, waiting_from}
use Rattle.broker.proofs.KeptReplies.{accessor_new, kept_served, token_new}
use Rattle.broker.proofs.order.wrap.keep.Goals as goal

pub put-requires : goal.put-requires
put-requires g c =
    waiting_in_range (token_text c.args.wrapping.now.token) c.waiting-response.result c.waiting-response.ensures.sound

pub told-requires : goal.told-requires
told-requires g c = ap (λ (w : Waiting). w.created) c.waiting-response.ensures.value

pub returns-clause-told : goal.returns-clause-told
returns-clause-told g c honest who b own d may st =
    let seen = g.T.RecordsTx.seen in
    let x = c.args.context.now in
    let w = c.args.wrapping.now in
    let text : c.as_str.result.now ≡ reply_text c.args.reply.now = c.as_str.ensures ∙ c.in_ok-text.ensures in
    let is = c.waiting-response.ensures.value
    ∙ ap (waiting_from x.clock w) text in
    let made : c.in_ok-wrapping_token.wrapping_token ≡ token_text w.token = c.in_ok-wrapping_token.ensures
    ∙ ap (λ (v : Wrapping). token_text v.token) c.wrapping.view_is in
    let named : c.as_str-2.result.now ≡ token_text w.token = c.as_str-2.ensures ∙ made in
    kept_served x w b own d may c.args.reply.now c.args.made
    (seen c.args.tx.now).rows (seen c.put.new.tx).rows st c.wrapping_is_proper.ensures.sound c.in_ok-told.field-0
    (subst (IsSoundWaiting (token_text w.token)) is c.waiting-response.ensures.sound)
    (c.in_ok-put.ensures.told honest who (counted d) st
    (subst (λ t. IsNew (counted d) (token_identifier t)) (sym named) (token_new x w b own d may))
    (subst (λ (r : Waiting). IsNew (counted d) r.accessor) (sym is) (accessor_new x w b own d may))
    ∙ (λ i. rows_of (kept_in (counted d) (named i) (is i))))
    (c.in_ok-told.ensures ∙ (λ i. reply
    (wrap_reply (names_of x.words).request (wrap_info (made i) (is i) c.args.made)) None))
