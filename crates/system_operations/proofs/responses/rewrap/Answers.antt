use Rattle.std.proofs.Common.{◌≡◌, Err, None, ap, subst, sym, ◌∙◌}
use Rattle.broker_model.specs.Words.{err_from_is_err_and, id, wrap_reply, names_of, reply, token_text, Reply, none_of}
use Rattle.broker_model.specs.Words.{moved, wrap_info, rewrapped}
use Rattle.broker_rows.specs.Words.{Context}
use Rattle.broker_rows.specs.declared.answered.Answered.TheVariants.{Given}
use Rattle.system_operations.specs.Rewrapping.{IsMoved}
use Rattle.system_operations.proofs.ResponseAnswers.{acts_on_found, acts_on_none}
use Rattle.system_operations.proofs.responses.rewrap.Goals as goal

pub move_response-requires-clause-named : goal.move_response-requires-clause-named
unfolding names_of
move_response-requires-clause-named g c =
    c.as_str.ensures ∙ c.in_ok-new_token.ensures ∙ ap (λ w. token_text (id w)) c.wrapping_token.ensures
    ∙ ap (λ (x : Context). token_text (names_of x.words).wrapping_token) c.context.view_is

pub returns-in_err-response-clause-told : goal.returns-in_err-response-clause-told
returns-in_err-response-clause-told g c who honest b starts fresh =
    let p = err_from_is_err_and c.from_residual-in_err-response.result c.from_residual-in_err-response.ensures.1 in
    rw (p.1 ∙ ap Err p.2) (c.in_err-response.ensures.wants honest who b starts)

pub returns-in_default-clause-told : goal.returns-in_default-clause-told
returns-in_default-clause-told g c who honest b starts fresh =
    let new = (g.T.RecordsTx.seen c.move_response.new.tx).rows in
    let names = names_of c.args.context.now.words in
    let t = c.args.token.now in
    let none = subst (IsMoved who new b names t) (none_of _ c.in_default.not-Some)
    (c.in_ok-response.ensures.told who honest b starts fresh) in
    acts_on_none b who new t (rewrapped b names) none.0 none.1

pub returns-clause-told : goal.returns-clause-told
unfolding names_of
returns-clause-told g c who honest b starts fresh =
    let new = (g.T.RecordsTx.seen c.move_response.new.tx).rows in
    let names = names_of c.args.context.now.words in
    let t = c.args.token.now in
    let is = subst (IsMoved who new b names t) c.in-Some.is (c.in_ok-response.ensures.told who honest b starts fresh) in
    let clock : c.context.inside.clock ≡ b.clock = ap (λ (x : Context). x.clock) c.context.view_is ∙ sym starts.clock in
    let request = c.as_str-3.ensures.value ∙ c.in_ok-request.ensures ∙ ap id c.request.ensures
    ∙ ap (λ (x : Context). (names_of x.words).request) c.context.view_is in
    let token = c.in_ok-token.ensures ∙ c.as_str-2.ensures ∙ c.in_ok-new_token.ensures
    ∙ ap (λ w. token_text (id w)) c.wrapping_token.ensures
    ∙ ap (λ (x : Context). token_text (names_of x.words).wrapping_token) c.context.view_is in
    let entry : record c.in-Some.response { created = c.context.inside.clock }
    ≡ moved names.wrapping_accessor b.clock is.0 = (λ i. record (is.2 i) { created = clock i }) in
    let info = c.in_ok-info.ensures ∙ (λ i. wrap_info (token i) (entry i) None) in
    acts_on_found b who new t (rewrapped b names) is.0 (Given c.in_ok-wrap_reply.field-0) is.1 (
      ap (λ (r : Reply). reply r None) (c.in_ok-wrap_reply.ensures ∙ (λ i. wrap_reply (request i) (info i))),
      is.3,
    )
