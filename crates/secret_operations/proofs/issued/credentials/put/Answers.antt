use Rattle.std.proofs.Common.{◌≡◌, ◌==◌, length, Ok, Err, false, refl, sym, ap, subst, arith, ◌∙◌}
use Rattle.broker_model.specs.Words.{option_map_or, err_from_is_err_and, id-length, honest_before, of_roles, used_row}
use Rattle.broker_model.specs.Words.{with_row, creds, forms}
use Rattle.records.specs.declared.kind.Kind.TheVariants as kind
use Rattle.broker_rows.specs.Words.{Context, Caller, represents_leases, still_represented, tells_part}
use Rattle.secret_operations.specs.Issuing.{IssuesLease}
use Rattle.secret_operations.proofs.IssuedAnswers.{ends_weaker}
use Rattle.secret_operations.proofs.IssuedRows.{last_use, id_new, credential_new, leased}
use Rattle.secret_operations.proofs.issued.credentials.put.Goals as goal

pub creds-requires : goal.creds-requires
creds-requires g c =
    let is = c.requires.credential in
    let long : length c.args.names.credential.now ≡ 36 = ap length is.2 ∙ id-length is.0 in
    omega (arith, long)

pub returns-in_err-lease-clause-told : goal.returns-in_err-lease-clause-told
returns-in_err-lease-clause-told g c is_mount =
    let seen = g.T.RecordsTx.seen in
    let mount = c.args.mount.now in
    let name = c.args.name.now in
    let named = c.args.names.lease.now in
    let credential = c.args.names.credential.now in
    let p = err_from_is_err_and c.from_residual.result c.from_residual.ensures.1 in
    subst (λ x. IssuesLease x c.args.context.now mount name named credential (seen c.args.tx.now)
    (seen c.creds.new.tx) c.from_residual.result)
    c.caller.view_is
    (λ honest b starts new.
    let old = (seen c.args.tx.now).rows in
    let token = c.caller.inside.token.now in
    let st = starts.begins.represents in
    let here = starts.begins.here token refl in
    let last = c.is_on_last_use.ensures
    ∙ ap (λ (x : Caller). option_map_or (λ n. n == 0) x.known.uses_left false) (sym c.caller.view_is)
    ∙ last_use b _ starts.caller in
    let clock = ap (λ (x : Context). x.clock) c.context.view_is ∙ sym starts.begins.clock in
    let ends = c.in_err-lease.ensures.told honest forms b (represents_leases b old old st (λ k q h. refl))
    st.sound.roles (tells_part of_roles b old st)
    clock last here st.sound.identifiers.all_used
    (id_new b token st.sound mount name named credential is_mount c.requires.named c.requires.credential new here)
    (credential_new b token st.sound mount name named credential is_mount c.requires.named c.requires.credential new
    here) in
    rw (p.1 ∙ ap Err p.2)
    (ends_weaker (λ same. still_represented b old (seen c.creds.new.tx).rows same st) c.in_err-lease.field-0.0
    (creds b token mount name named credential) ends))

pub returns-clause-told : goal.returns-clause-told
returns-clause-told g c is_mount =
    let seen = g.T.RecordsTx.seen in
    let mount = c.args.mount.now in
    let name = c.args.name.now in
    let named = c.args.names.lease.now in
    let credential = c.args.names.credential.now in
    subst (λ x. IssuesLease x c.args.context.now mount name named credential (seen c.args.tx.now)
    (seen c.use_up-2.new.tx) (Ok c.in_ok-lease.lease))
    c.caller.view_is
    (λ honest b starts new.
    let old = (seen c.args.tx.now).rows in
    let token = c.caller.inside.token.now in
    let st = starts.begins.represents in
    let here = starts.begins.here token refl in
    let once =
    honest_before (seen c.use_up.new.tx) (seen c.use_up-2.new.tx) _ c.in_ok-use_up-2.ensures.call.goes_on honest in
    let made = honest_before (seen c.creds.new.tx) (seen c.use_up.new.tx) _ c.in_ok-use_up.ensures.call.goes_on once in
    let last = c.is_on_last_use.ensures
    ∙ ap (λ (x : Caller). option_map_or (λ n. n == 0) x.known.uses_left false) (sym c.caller.view_is)
    ∙ last_use b _ starts.caller in
    let clock = ap (λ (x : Context). x.clock) c.context.view_is ∙ sym starts.begins.clock in
    let ends = c.in_ok-lease.ensures.told made forms b (represents_leases b old old st (λ k q h. refl)) st.sound.roles
    (tells_part of_roles b old st)
    clock last here st.sound.identifiers.all_used
    (id_new b token st.sound mount name named credential is_mount c.requires.named c.requires.credential new here)
    (credential_new b token st.sound mount name named credential is_mount c.requires.named c.requires.credential new
    here) in
    let marks = c.in_ok-use_up-2.ensures.rows honest
    ∙ (λ i. with_row (c.in_ok-use_up.ensures.rows once i) kind.Used named used_row) in
    leased b token st.sound mount name named credential is_mount c.requires.named c.requires.credential new here old
    (seen c.creds.new.tx).rows
    (seen c.use_up-2.new.tx).rows st (c.in_ok-lease.ensures.call.others made) marks c.in_ok-lease.lease ends)
