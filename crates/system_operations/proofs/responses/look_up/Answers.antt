use Rattle.broker_model.specs.Words.{Err, None, ap, sym, ◌∙◌, err_from_is_err_and, waiting_object, plain_reply, Waiting}
use Rattle.broker_model.specs.Words.{names_of, reply, plainly, none_of, FoundResponse, shown_response}
use Rattle.broker_rows.specs.Words.{represents_waiting, still_represented}
use Rattle.system_operations.proofs.ResponseAnswers.{acts_on_found, acts_on_none}
use Rattle.system_operations.proofs.responses.look_up.Goals as goal

pub returns-in_err-response-clause-told : goal.returns-in_err-response-clause-told
returns-in_err-response-clause-told g c who honest b starts fresh =
    let old = (g.T.RecordsTx.seen c.args.tx.now).rows in
    let p = err_from_is_err_and c.from_residual.result c.from_residual.ensures.1 in
    rw (p.1 ∙ ap Err p.2) (c.in_err-response.ensures.wants honest b (represents_waiting b old starts.represents))

pub returns-in_default-clause-told : goal.returns-in_default-clause-told
returns-in_default-clause-told g c who honest b starts fresh =
    let seen = g.T.RecordsTx.seen in
    let old = (seen c.args.tx.now).rows in
    let new = (seen c.look.new.tx).rows in
    let names = names_of c.args.context.now.words in
    let st = starts.represents in
    acts_on_none b who new c.args.token.now (λ (f : FoundResponse). plainly (reply (shown_response names f) None) b)
    (sym (c.in_ok-response.ensures.told honest b (represents_waiting b old st)) ∙ none_of _ c.in_default.not-Some)
    (still_represented b old new (c.in_ok-response.ensures.call.same honest) st)

pub returns-clause-told : goal.returns-clause-told
returns-clause-told g c who honest b starts fresh =
    let seen = g.T.RecordsTx.seen in
    let old = (seen c.args.tx.now).rows in
    let new = (seen c.look.new.tx).rows in
    let names = names_of c.args.context.now.words in
    let st = starts.represents in
    let w = c.in-Some.response in
    acts_on_found b who new c.args.token.now (λ (f : FoundResponse). plainly (reply (shown_response names f) None) b) w
    c.in_ok-shown.field-0
    (sym (c.in_ok-response.ensures.told honest b (represents_waiting b old st)) ∙ c.in-Some.is) (
      c.in_ok-shown.ensures ∙ ap (λ o. reply (plain_reply names.request o) None)
          (c.in_ok-object.ensures
          ∙ (λ i. waiting_object (c.as_str.ensures i) (c.moment-created.ensures i) c.response.inside.ttl)
          ∙ ap (λ (w : Waiting). waiting_object w.path w.created w.ttl) c.response.view_is),
      still_represented b old new (c.in_ok-response.ensures.call.same honest) st,
    )
