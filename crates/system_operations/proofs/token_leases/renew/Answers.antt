use Rattle.std.proofs.Common.{◌≡◌, ◌-◌, [], Err, None, Ok, ap, refl, subst, sym, ◌∙◌}
use Rattle.broker_model.specs.Words.{err_from_is_err_and, id, lease_reply, names_of, EndsErr, forms}
use Rattle.leases.specs.Leases as leases
use Rattle.broker_model.specs.parts.Leases as part
use Rattle.broker_rows.specs.Words.{Context, Performs, represents_leases}
use Rattle.broker_rows.specs.declared.answered.Answered.TheVariants.{Given}
use Rattle.system_operations.proofs.LeaseAnswers.{acts_refused, acts_renewed, renewed_of}
use Rattle.system_operations.proofs.token_leases.renew.Goals as goal

pub returns-in_err-ends-clause-told : goal.returns-in_err-ends-clause-told
returns-in_err-ends-clause-told g c who honest b starts fresh =
    let seen = g.T.RecordsTx.seen in
    let old = (seen c.args.tx.now).rows in
    let new = (seen c.renew.new.tx).rows in
    let st = starts.represents in
    let names = names_of c.args.context.now.words in
    let asked = c.args.asked in
    let clock : b.clock ≡ c.context.inside.clock =
    starts.clock ∙ sym (ap (λ (x : Context). x.clock) c.context.view_is) in
    let p = err_from_is_err_and c.from_residual.result c.from_residual.ensures.1 in
    rw (p.1 ∙ ap Err p.2)
    (acts_refused b who old new st (leases.renew b asked.lease_id asked.increment) (renewed_of b names asked.lease_id)
    c.in_err-ends.field-0.0
    (subst (λ q. EndsErr (new ≡ old) c.in_err-ends.field-0.0 (leases.renew b q asked.increment)) c.as_str.ensures
    (c.in_err-ends.ensures.told honest forms b (represents_leases b old old st (λ k q h. refl)) (sym clock))))

pub returns-clause-told : goal.returns-clause-told
unfolding names_of
returns-clause-told g c who =
    let seen = g.T.RecordsTx.seen in
    let asked = c.args.asked in
    subst (λ x. Performs who x [] (seen c.args.tx.now) (seen c.renew.new.tx)
    (λ b. part.renew b (names_of x.words) asked.lease_id asked.increment) (Ok (Given c.in_ok-lease_reply.field-0)))
    c.context.view_is
    (λ honest b starts fresh.
    let old = (seen c.args.tx.now).rows in
    let new = (seen c.renew.new.tx).rows in
    let st = starts.represents in
    let names = names_of c.context.inside.words.now in
    let ends = c.in_ok-ends.ends in
    acts_renewed b who old new st names c.as_str.result.now asked.lease_id asked.increment ends
    c.in_ok-lease_reply.field-0 c.as_str.ensures
    (c.in_ok-ends.ensures.told honest forms b (represents_leases b old old st (λ k q h. refl)) (sym starts.clock))
    (c.in_ok-ends.ensures.call.others honest)
    (c.in_ok-lease_reply.ensures
    ∙ ap (λ request. lease_reply request asked.lease_id c.seconds_left-seconds.result None)
    (c.as_str-2.ensures.value ∙ c.in_ok-request.ensures ∙ ap id c.request.ensures)
    ∙ ap (λ seconds. lease_reply names.request asked.lease_id seconds None) c.seconds_left-seconds.ensures
    ∙ ap (λ now. lease_reply names.request asked.lease_id (ends - now) None) (sym starts.clock)))
