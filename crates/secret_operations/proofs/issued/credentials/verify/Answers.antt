use Rattle.broker_model.specs.Words.{None, Err, refl, ap, ◌∙◌, err_from_is_err_and, valid_object, plain_reply, names_of}
use Rattle.broker_model.specs.Words.{reply, forms}
use Rattle.broker_rows.specs.Words.{represents_leases, still_represented}
use Rattle.secret_operations.proofs.issued.credentials.verify.Goals as goal

pub returns-in_err-valid-clause-told : goal.returns-in_err-valid-clause-told
returns-in_err-valid-clause-told g c who honest b starts fresh =
    let old = (g.T.RecordsTx.seen c.args.tx.now).rows in
    let p = err_from_is_err_and c.from_residual.result c.from_residual.ensures.1 in
    rw (p.1 ∙ ap Err p.2)
    (c.in_err-valid.ensures.wants honest forms b (represents_leases b old old starts.represents (λ k q h. refl)))

pub returns-clause-told : goal.returns-clause-told
returns-clause-told g c who honest b starts fresh =
    let seen = g.T.RecordsTx.seen in
    let old = (seen c.args.tx.now).rows in
    let st = starts.represents in
    let request = (names_of c.args.context.now.words).request in (
      c.in_ok-shown.ensures
          ∙ ap (λ o. reply (plain_reply request o) None)
          (c.in_ok-object.ensures ∙ ap valid_object
          (c.in_ok-valid.ensures.told honest forms b (represents_leases b old old st (λ k q h. refl)))),
      still_represented b old (seen c.verify.new.tx).rows (c.in_ok-valid.ensures.call.same honest) st,
    )
