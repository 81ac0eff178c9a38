use Rattle.broker_model.specs.Words.{None, Err, map, ap, ◌∙◌, err_from_is_err_and, mounts_object, plain_reply, names_of}
use Rattle.broker_model.specs.Words.{reply, shown_mount}
use Rattle.broker_rows.specs.Words.{mounts_there, still_represented}
use Rattle.system_operations.proofs.mounted_engines.list.Goals as goal

pub returns-in_err-mounts-clause-told : goal.returns-in_err-mounts-clause-told
returns-in_err-mounts-clause-told g c who honest b starts fresh =
    let old = (g.T.RecordsTx.seen c.args.tx.now).rows in
    let p = err_from_is_err_and c.from_residual.result c.from_residual.ensures.1 in
    rw (p.1 ∙ ap Err p.2) (c.in_err-mounts.ensures.told honest b.mounts (mounts_there b old starts.represents))

pub returns-clause-told : goal.returns-clause-told
returns-clause-told g c who honest b starts fresh =
    let seen = g.T.RecordsTx.seen in
    let old = (seen c.args.tx.now).rows in
    let new = (seen c.list.new.tx).rows in
    let request = (names_of c.args.context.now.words).request in
    let st = starts.represents in
    let listed = c.in_ok-mounts.ensures.told honest b.mounts (mounts_there b old st) in (
      c.in_ok-shown.ensures
          ∙ ap (λ o. reply (plain_reply request o) None)
          (c.in_ok-object.ensures ∙ ap mounts_object (c.deref-2.ensures.value ∙ c.in_ok-objects.ensures
          ∙ ap (map shown_mount) (c.deref.ensures.value ∙ listed))),
      still_represented b old new (c.in_ok-mounts.ensures.call.same honest) st,
    )
