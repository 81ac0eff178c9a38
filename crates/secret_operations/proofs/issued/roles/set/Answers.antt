use Rattle.broker_model.specs.Words.{Err, ap, ◌∙◌, err_from_is_err_and, of_roles}
use Rattle.broker_rows.specs.Words.{tells_part}
use Rattle.secret_operations.proofs.IssuedAnswers.{acts_set, acts_not_set}
use Rattle.secret_operations.proofs.issued.roles.set.Goals as goal

pub returns-in_err-set_role-clause-told : goal.returns-in_err-set_role-clause-told
returns-in_err-set_role-clause-told g c is_mount who x honest b starts fresh =
    let seen = g.T.RecordsTx.seen in
    let old = (seen c.args.tx.now).rows in
    let st = starts.represents in
    let p = err_from_is_err_and c.from_residual.result c.from_residual.ensures.1 in
    rw (p.1 ∙ ap Err p.2)
    (acts_not_set b who old (seen c.set_role.new.tx).rows st c.args.mount.now c.args.name.now c.args.asked
    c.in_err-set_role.field-0.0
    (c.in_err-set_role.ensures.told honest b (tells_part of_roles b old st)))

pub returns-clause-told : goal.returns-clause-told
returns-clause-told g c is_mount who x honest b starts fresh =
    let seen = g.T.RecordsTx.seen in
    let old = (seen c.args.tx.now).rows in
    let st = starts.represents in
    acts_set b who old (seen c.set_role.new.tx).rows st c.args.mount.now c.args.name.now c.args.asked
    (c.in_ok-set_role.ensures.told honest b (tells_part of_roles b old st))
    (c.in_ok-set_role.ensures.call.others honest) is_mount c.requires.ttl
    c.requires.max_ttl
