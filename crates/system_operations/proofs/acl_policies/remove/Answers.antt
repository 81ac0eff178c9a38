use Rattle.broker_model.specs.Words.{Err, ap, ◌∙◌, err_from_is_err_and, is_object, deleted_sound}
use Rattle.policies.specs.Policies as policies
use Rattle.broker_rows.specs.Words.{policies_there}
use Rattle.system_operations.proofs.AclPolicyAnswers.{acts_changed, acts_refused}
use Rattle.system_operations.proofs.acl_policies.remove.Goals as goal

pub returns-in_err-delete-clause-told : goal.returns-in_err-delete-clause-told
returns-in_err-delete-clause-told g c who x honest b starts fresh =
    let seen = g.T.RecordsTx.seen in
    let old = (seen c.args.tx.now).rows in
    let new = (seen c.delete.new.tx).rows in
    let st = starts.represents in
    let p = err_from_is_err_and c.from_residual.result c.from_residual.ensures.1 in
    rw (p.1 ∙ ap Err p.2)
    (acts_refused b who old new st (policies.deleted b.policies c.args.name.now) c.in_err-delete.field-0.0
    (c.in_err-delete.ensures.told honest b.policies (policies_there b old st)))

pub returns-clause-told : goal.returns-clause-told
returns-clause-told g c who x honest b starts fresh =
    let seen = g.T.RecordsTx.seen in
    let old = (seen c.args.tx.now).rows in
    let new = (seen c.delete.new.tx).rows in
    let name = c.args.name.now in
    let st = starts.represents in
    acts_changed b who old new st c.in_ok-delete.field-0 (policies.deleted b.policies name)
    (λ next is. deleted_sound b next is_object who name st.sound is)
    (c.in_ok-delete.ensures.told honest b.policies (policies_there b old st))
    (c.in_ok-delete.ensures.call.others honest)
