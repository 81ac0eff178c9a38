use Rattle.broker_model.specs.Words.{Err, ap, refl, ◌∙◌, err_from_is_err_and, without, shows_in_leases, forms}
use Rattle.leases.specs.StaysSoundLaws.{revoke_sound}
use Rattle.leases.specs.Leases.{revoke}
use Rattle.broker_rows.specs.Words.{represents_leases}
use Rattle.system_operations.proofs.LeaseAnswers.{acts_ended}
use Rattle.system_operations.proofs.token_leases.revoke.Goals as goal

pub returns-in_err-revoke-clause-told : goal.returns-in_err-revoke-clause-told
returns-in_err-revoke-clause-told g c who x honest b starts fresh =
    let old = (g.T.RecordsTx.seen c.args.tx.now).rows in
    let p = err_from_is_err_and c.from_residual.result c.from_residual.ensures.1 in
    rw (p.1 ∙ ap Err p.2)
    (c.in_err-revoke.ensures.wants honest forms b (represents_leases b old old starts.represents (λ k q h. refl)))

pub returns-clause-told : goal.returns-clause-told
returns-clause-told g c who x honest b starts fresh =
    let seen = g.T.RecordsTx.seen in
    let old = (seen c.args.tx.now).rows in
    let new = (seen c.revoke.new.tx).rows in
    let lease_id = c.args.lease_id.now in
    let st = starts.represents in
    acts_ended b who old new st (revoke b lease_id) (revoke_sound forms who b st.sound lease_id)
    (shows_in_leases b (λ t m. without m lease_id))
    (c.in_ok-revoke.ensures.told honest forms b (represents_leases b old old st (λ k q h. refl)))
    (c.in_ok-revoke.ensures.call.others honest)
