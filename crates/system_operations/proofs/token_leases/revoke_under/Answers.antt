use Rattle.broker_model.specs.Words.{not, Err, ap, refl, ◌∙◌, err_from_is_err_and, keep, revoke_under_sound}
use Rattle.broker_model.specs.Words.{revoke_under, shows_in_leases, forms}
use Rattle.leases.specs.Leases.{is_under}
use Rattle.broker_rows.specs.Words.{represents_leases}
use Rattle.system_operations.proofs.LeaseAnswers.{acts_ended}
use Rattle.system_operations.proofs.token_leases.revoke_under.Goals as goal

pub returns-in_err-revoke_under-clause-told : goal.returns-in_err-revoke_under-clause-told
returns-in_err-revoke_under-clause-told g c who x honest b starts fresh =
    let old = (g.T.RecordsTx.seen c.args.tx.now).rows in
    let p = err_from_is_err_and c.from_residual.result c.from_residual.ensures.1 in
    rw (p.1 ∙ ap Err p.2)
    (c.in_err-revoke_under.ensures.wants honest forms b (represents_leases b old old starts.represents (λ k q h. refl)))

pub returns-clause-told : goal.returns-clause-told
returns-clause-told g c who x honest b starts fresh =
    let seen = g.T.RecordsTx.seen in
    let old = (seen c.args.tx.now).rows in
    let new = (seen c.revoke_under.new.tx).rows in
    let prefix = c.args.prefix.now in
    let st = starts.represents in
    acts_ended b who old new st (revoke_under b prefix) (revoke_under_sound forms who b st.sound prefix)
    (shows_in_leases b (λ t m. keep (λ q. not (is_under prefix q)) m))
    (c.in_ok-revoke_under.ensures.told honest forms b (represents_leases b old old st (λ k q h. refl)))
    (c.in_ok-revoke_under.ensures.call.others honest)
