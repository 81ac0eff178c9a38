use Rattle.broker_model.specs.Words.{Err, None, ap, ◌∙◌, err_from_is_err_and, names_of, reply, keys_object, plain_reply}
use Rattle.broker_model.specs.Words.{forms}
use Rattle.broker_rows.specs.Words.{represents_tokens, still_represented}
use Rattle.token_operations.proofs.lookup.list_accessors.Goals as goal

pub returns-in_err-names-clause-told : goal.returns-in_err-names-clause-told
returns-in_err-names-clause-told g c who honest b starts fresh =
    let p = err_from_is_err_and c.from_residual.result c.from_residual.ensures.1 in
    rw (p.1 ∙ ap Err p.2)
    (c.in_err-names.ensures.wants honest forms b
    (represents_tokens b (g.T.RecordsTx.seen c.args.tx.now).rows starts.represents))

pub returns-clause-told : goal.returns-clause-told
returns-clause-told g c who honest b starts fresh =
    let seen = g.T.RecordsTx.seen in
    let rows = (seen c.args.tx.now).rows in
    let request = (names_of c.args.context.now.words).request in (
      c.in_ok-shown.ensures
          ∙ ap (λ o. reply (plain_reply request o) None)
          (c.in_ok-object.ensures
          ∙ ap keys_object (c.deref.ensures.value
          ∙ c.in_ok-names.ensures.told honest forms b (represents_tokens b rows starts.represents))),
      still_represented b rows (seen c.accessors.new.tx).rows (c.in_ok-names.ensures.call.same honest)
          starts.represents,
    )
