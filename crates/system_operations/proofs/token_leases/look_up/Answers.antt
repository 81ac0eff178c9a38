use Rattle.std.proofs.Common.{◌≡◌, Err, None, ap, refl, subst, sym, ◌∙◌}
use Rattle.broker_model.specs.Words.{⊤, err_from_is_err_and, lease_object, plain_reply, names_of, reply, EndsErr, Times}
use Rattle.broker_model.specs.Words.{forms}
use Rattle.leases.specs.Leases.{lookup}
use Rattle.broker_rows.specs.Words.{Context, represents_leases}
use Rattle.system_operations.proofs.LeaseAnswers.{acts_refused, acts_shown, shown_of, with_refusal}
use Rattle.system_operations.proofs.token_leases.look_up.Goals as goal

pub returns-in_err-times-clause-told : goal.returns-in_err-times-clause-told
returns-in_err-times-clause-told g c who honest b starts fresh =
    let seen = g.T.RecordsTx.seen in
    let old = (seen c.args.tx.now).rows in
    let new = (seen c.lookup.new.tx).rows in
    let st = starts.represents in
    let names = names_of c.args.context.now.words in
    let found = lookup b c.args.lease_id in
    let p = err_from_is_err_and c.from_residual.result c.from_residual.ensures.1 in
    rw (p.1 ∙ ap Err p.2)
    (acts_refused b who old new st found (shown_of b names c.args.lease_id) c.in_err-times.field-0.0
    (with_refusal Times (new ≡ old) found c.in_err-times.field-0.0
    (subst (λ q. EndsErr ⊤ c.in_err-times.field-0.0 (lookup b q)) c.as_str.ensures
    (c.in_err-times.ensures.told honest forms b (represents_leases b old old st (λ k q h. refl))))
    (c.in_err-times.ensures.call.same honest)))

pub returns-clause-told : goal.returns-clause-told
returns-clause-told g c who honest b starts fresh =
    let seen = g.T.RecordsTx.seen in
    let old = (seen c.args.tx.now).rows in
    let new = (seen c.lookup.new.tx).rows in
    let st = starts.represents in
    let names = names_of c.args.context.now.words in
    let clock : b.clock ≡ c.context.inside.clock =
    starts.clock ∙ sym (ap (λ (x : Context). x.clock) c.context.view_is) in
    acts_shown b who old new st names c.as_str.result.now c.args.lease_id c.context.inside.clock c.in_ok-times.times
    c.in_ok-shown.field-0 c.as_str.ensures (c.in_ok-times.ensures.call.same honest) clock
    (c.in_ok-times.ensures.told honest forms b (represents_leases b old old st (λ k q h. refl)))
    (c.in_ok-shown.ensures
    ∙ ap (λ o. reply (plain_reply names.request o) None)
    (c.in_ok-object.ensures ∙ ap lease_object c.shown-lease.ensures))
