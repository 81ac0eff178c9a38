use Rattle.broker_model.specs.Words.{None, Ok, Err, ap, sym, ◌∙◌, err_from_is_err_and, role_object, plain_reply, Role}
use Rattle.broker_model.specs.Words.{names_of, reply, plainly, of_roles, none_of}
use Rattle.leases.specs.Roles as roles
use Rattle.broker_rows.specs.Words.{still_represented, tells_part, acts_found, acts_absent}
use Rattle.secret_operations.proofs.issued.roles.show.Goals as goal

pub returns-in_err-found-clause-told : goal.returns-in_err-found-clause-told
returns-in_err-found-clause-told g c who honest b starts fresh =
    let old = (g.T.RecordsTx.seen c.args.tx.now).rows in
    let st = starts.represents in
    let p = err_from_is_err_and c.from_residual.result c.from_residual.ensures.1 in
    rw (p.1 ∙ ap Err p.2) (c.in_err-found.ensures.wants honest b st.sound.roles (tells_part of_roles b old st))

pub returns-in_default-clause-told : goal.returns-in_default-clause-told
returns-in_default-clause-told g c who honest b starts fresh =
    let seen = g.T.RecordsTx.seen in
    let old = (seen c.args.tx.now).rows in
    let new = (seen c.role.new.tx).rows in
    let request = (names_of c.args.context.now.words).request in
    let st = starts.represents in
    acts_absent b new who (λ (r : Role). plainly (reply (plain_reply request (role_object r.max_ttl r.ttl)) None) b)
    (roles.role b c.args.mount.now c.args.name.now)
    (sym (c.in_ok-found.ensures.told honest b st.sound.roles (tells_part of_roles b old st))
    ∙ none_of _ c.in_default.not-Some)
    (still_represented b old new (c.in_ok-found.ensures.call.same honest) st)

pub returns-clause-told : goal.returns-clause-told
returns-clause-told g c who honest b starts fresh =
    let seen = g.T.RecordsTx.seen in
    let old = (seen c.args.tx.now).rows in
    let new = (seen c.role.new.tx).rows in
    let request = (names_of c.args.context.now.words).request in
    let st = starts.represents in
    acts_found b new who (λ (r : Role). plainly (reply (plain_reply request (role_object r.max_ttl r.ttl)) None) b)
    (roles.role b c.args.mount.now c.args.name.now) c.in-Some.found (Ok c.in_ok-shown.field-0)
    (sym (c.in_ok-found.ensures.told honest b st.sound.roles (tells_part of_roles b old st)) ∙ c.in-Some.is) (
      c.in_ok-shown.ensures ∙ ap (λ o. reply (plain_reply request o) None)
          (c.in_ok-object.ensures ∙ ap (λ (r : Role). role_object r.max_ttl r.ttl) c.found.view_is),
      still_represented b old new (c.in_ok-found.ensures.call.same honest) st,
    )
