use Rattle.broker_model.specs.Words.{None, Ok, Err, ap, sym, ◌∙◌, err_from_is_err_and, is_object, policy_object}
use Rattle.broker_model.specs.Words.{plain_reply, names_of, reply, plainly, Text, none_of, text_of}
use Rattle.broker_rows.specs.Words.{policies_there, still_represented, acts_found, acts_absent}
use Rattle.system_operations.proofs.acl_policies.show.Goals as goal

pub returns-in_err-text-clause-told : goal.returns-in_err-text-clause-told
returns-in_err-text-clause-told g c who honest b starts fresh =
    let old = (g.T.RecordsTx.seen c.args.tx.now).rows in
    let st = starts.represents in
    let p = err_from_is_err_and c.from_residual.result c.from_residual.ensures.1 in
    rw (p.1 ∙ ap Err p.2) (c.in_err-text.ensures.wants honest is_object b.policies st.sound.policies
    (policies_there b old st))

pub returns-in_default-clause-told : goal.returns-in_default-clause-told
returns-in_default-clause-told g c who honest b starts fresh =
    let seen = g.T.RecordsTx.seen in
    let old = (seen c.args.tx.now).rows in
    let new = (seen c.get.new.tx).rows in
    let request = (names_of c.args.context.now.words).request in
    let name = c.args.name.now in
    let st = starts.represents in
    acts_absent b new who (λ (text : Text). plainly (reply (plain_reply request (policy_object name text)) None) b)
    (text_of b.policies name)
    (sym (c.in_ok-text.ensures.told honest b.policies (policies_there b old st)) ∙ none_of _ c.in_default.not-Some)
    (still_represented b old new (c.in_ok-text.ensures.call.same honest) st)

pub returns-clause-told : goal.returns-clause-told
returns-clause-told g c who honest b starts fresh =
    let seen = g.T.RecordsTx.seen in
    let old = (seen c.args.tx.now).rows in
    let new = (seen c.get.new.tx).rows in
    let request = (names_of c.args.context.now.words).request in
    let name = c.args.name.now in
    let st = starts.represents in
    acts_found b new who (λ (text : Text). plainly (reply (plain_reply request (policy_object name text)) None) b)
    (text_of b.policies name) c.in-Some.text (Ok c.in_ok-shown.field-0)
    (sym (c.in_ok-text.ensures.told honest b.policies (policies_there b old st)) ∙ c.in-Some.is) (
      c.in_ok-shown.ensures
          ∙ ap (λ o. reply (plain_reply request o) None)
          (c.in_ok-object.ensures ∙ ap (policy_object name) c.as_str.ensures),
      still_represented b old new (c.in_ok-text.ensures.call.same honest) st,
    )
