use Rattle.std.proofs.Common.{if◌then◌else◌, Err, ap, subst, ◌∙◌, is_some}
use Rattle.broker_model.specs.Words.{err_from_is_err_and, get, nothing, plainly, EndsOk, honest_before, without_kept}
use Rattle.mounts.specs.Mounts as mounts
use Rattle.broker_rows.specs.Words.{mounts_there}
use Rattle.system_operations.proofs.MountAnswers.{IsDisabled, acts_refused, acts_absent, is_gone, acts_disabled}
use Rattle.system_operations.proofs.mounted_engines.disable.Goals as goal

pub returns-in_err-was_there-clause-told : goal.returns-in_err-was_there-clause-told
returns-in_err-was_there-clause-told g c who x honest b starts fresh =
    let seen = g.T.RecordsTx.seen in
    let old = (seen c.args.tx.now).rows in
    let new = (seen c.disable.new.tx).rows in
    let name = c.args.name.now in
    let st = starts.represents in
    let p = err_from_is_err_and c.from_residual.result c.from_residual.ensures.1 in
    rw (p.1 ∙ ap Err p.2)
    (acts_refused b who old new st (λ next. plainly nothing
    (if is_some (get b.mounts name) then without_kept (record b { mounts = next }) name else b))
    (mounts.disabled b.mounts name) c.in_err-was_there.field-0.0
    (c.in_err-was_there.ensures.told honest b.mounts (mounts_there b old st)))

pub returns-then-not-was_there-clause-told : goal.returns-then-not-was_there-clause-told
returns-then-not-was_there-clause-told g c who x honest b starts fresh =
    let seen = g.T.RecordsTx.seen in
    let old = (seen c.args.tx.now).rows in
    let new = (seen c.disable.new.tx).rows in
    let name = c.args.name.now in
    let st = starts.represents in
    acts_absent b who old new st name
    (subst (λ was. EndsOk (IsDisabled b who old new st name) was (mounts.disabled b.mounts name))
    c.if-not-was_there.true
    (c.in_ok-was_there.ensures.told honest b.mounts (mounts_there b old st)))
    (c.in_ok-was_there.ensures.call.others honest)

pub returns-clause-told : goal.returns-clause-told
returns-clause-told g c who x honest b starts fresh =
    let seen = g.T.RecordsTx.seen in
    let asked =
    honest_before (seen c.disable.new.tx) (seen c.drop_kept.new.tx) _ c.drop_kept.ensures.call.goes_on honest in
    let old = (seen c.args.tx.now).rows in
    let mid = (seen c.disable.new.tx).rows in
    let new = (seen c.drop_kept.new.tx).rows in
    let name = c.args.name.now in
    let st = starts.represents in
    let gone = is_gone b who old mid st name
    (subst (λ was. EndsOk (IsDisabled b who old mid st name) was (mounts.disabled b.mounts name))
    c.if-not-was_there.false
    (c.in_ok-was_there.ensures.told asked b.mounts (mounts_there b old st)))
    (c.in_ok-was_there.ensures.call.others asked) in
    acts_disabled b who old mid st name new gone
    (c.in_ok-drop_kept.ensures.told honest who (record b { mounts = gone.next }) gone.represents gone.named)

pub returns-in_err-drop_kept-clause-told : goal.returns-in_err-drop_kept-clause-told
returns-in_err-drop_kept-clause-told g c who x honest b starts fresh =
    let seen = g.T.RecordsTx.seen in
    let asked =
    honest_before (seen c.disable.new.tx) (seen c.drop_kept.new.tx) _ c.drop_kept.ensures.call.goes_on honest in
    let old = (seen c.args.tx.now).rows in
    let mid = (seen c.disable.new.tx).rows in
    let name = c.args.name.now in
    let st = starts.represents in
    let gone = is_gone b who old mid st name
    (subst (λ was. EndsOk (IsDisabled b who old mid st name) was (mounts.disabled b.mounts name))
    c.if-not-was_there.false
    (c.in_ok-was_there.ensures.told asked b.mounts (mounts_there b old st)))
    (c.in_ok-was_there.ensures.call.others asked) in
    let p = err_from_is_err_and c.from_residual-in_err-drop_kept.result c.from_residual-in_err-drop_kept.ensures.1 in
    rw (p.1 ∙ ap Err p.2)
    (c.in_err-drop_kept.ensures.wants honest who (record b { mounts = gone.next }) gone.represents gone.named)
