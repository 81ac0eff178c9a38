use Rattle.std.proofs.Common.{◌≡◌, Err, ap, subst, ◌∙◌}
use Rattle.broker_model.specs.Words.{err_from_is_err_and, nothing, plainly, EndsOk, EndsErr, AreMounts, enabled_sound}
use Rattle.broker_model.specs.Words.{table_of, forms}
use Rattle.mounts.specs.Mounts as mounts
use Rattle.broker_rows.specs.Words.{mounts_there}
use Rattle.system_operations.proofs.MountAnswers.{acts_enabled, acts_refused}
use Rattle.system_operations.proofs.mounted_engines.enable.Goals as goal

pub returns-in_err-enable-clause-told : goal.returns-in_err-enable-clause-told
returns-in_err-enable-clause-told g c who x honest b starts fresh =
    let seen = g.T.RecordsTx.seen in
    let old = (seen c.args.tx.now).rows in
    let new = (seen c.enable.new.tx).rows in
    let name = c.args.name.now in
    let asked = c.args.asked in
    let st = starts.represents in
    let error = c.in_err-enable.field-0.0 in
    let p = err_from_is_err_and c.from_residual.result c.from_residual.ensures.1 in
    let ends = c.in_err-enable.ensures.told honest b.mounts (mounts_there b old st) in
    rw (p.1 ∙ ap Err p.2)
    (acts_refused b who old new st (λ next. plainly nothing (record b { mounts = next }))
    (mounts.enabled b.mounts name asked.type_name asked.version) error
    (subst (λ type. EndsErr (new ≡ old) error (mounts.enabled b.mounts name type asked.version)) c.as_str.ensures ends))

pub returns-clause-told : goal.returns-clause-told
returns-clause-told g c who x honest b starts fresh =
    let seen = g.T.RecordsTx.seen in
    let old = (seen c.args.tx.now).rows in
    let new = (seen c.enable.new.tx).rows in
    let name = c.args.name.now in
    let asked = c.args.asked in
    let st = starts.represents in
    let ends = c.in_ok-enable.ensures.told honest b.mounts (mounts_there b old st) in
    acts_enabled b who old new st c.in_ok-enable.field-0 (mounts.enabled b.mounts name asked.type_name asked.version)
    (λ next is. enabled_sound b next forms who name asked.type_name asked.version st.sound is)
    (subst (λ type. EndsOk (λ _ next. AreMounts (table_of new) next) c.in_ok-enable.field-0
    (mounts.enabled b.mounts name type asked.version)) c.as_str.ensures ends)
    (c.in_ok-enable.ensures.call.others honest)
