use Rattle.records.specs.Words.{Some, ap, is_ok, sym, subst, ◌∙◌, false≢true, same_Some, err_from_is_err_and, get}
use Rattle.records.specs.Words.{mapped, mapped_none, IsRoleInRange, role_in_range, role_row, table, none_of, ok_inj}
use Rattle.records.specs.declared.kind.Kind.TheVariants as kind
use Rattle.leases.specs.Words.{role_name}
use Rattle.leases.proofs.RoleEdits.{role_told}
use Rattle.leases.proofs.roles.role.Goals as goal

pub returns-in_default-clause-told : goal.returns-in_default-clause-told
returns-in_default-clause-told g c honest b sound told =
    let t = table (g.T.RecordsTx.seen c.args.tx.now) in
    let key = role_name c.args.mount.now c.args.name.now in
    sym (mapped_none role_row (get b.roles key)
    (sym (role_told t b told key) ∙ ap (t kind.Role) (sym (c.as_str.ensures.value ∙ c.in_ok-key.ensures))
    ∙ sym (c.in_ok-kept.ensures.found honest) ∙ none_of _ c.in_default.not-Some))

pub returns-in_err-read_role-clause-wants : goal.returns-in_err-read_role-clause-wants
returns-in_err-read_role-clause-wants g c honest b sound told =
    let t = table (g.T.RecordsTx.seen c.args.tx.now) in
    let key = role_name c.args.mount.now c.args.name.now in
    let r = mapped role_row (get b.roles key) c.in-Some.kept
    (sym (role_told t b told key) ∙ ap (t kind.Role) (sym (c.as_str.ensures.value ∙ c.in_ok-key.ensures))
    ∙ sym (c.in_ok-kept.ensures.found honest) ∙ c.in-Some.is) in
    absurd (false≢true
    (ap is_ok (c.in_err-read_role.ensures.again r.0 (role_in_range key r.0 (sound key r.0 r.1)) r.2)))

pub returns-in_err-read_role-clause-call : goal.returns-in_err-read_role-clause-call
returns-in_err-read_role-clause-call g c =
    let t = table (g.T.RecordsTx.seen c.args.tx.now) in
    let p = err_from_is_err_and c.from_residual-in_err-read_role.result c.from_residual-in_err-read_role.ensures.1 in
    rw (p.1, p.2, c.in_err-read_role.ensures.damaged) (record {
      same = λ _. tt;
      faults = λ honest readable.
          let r = mapped role_row readable.0 c.in-Some.kept
          (sym readable.1.row ∙ ap (t kind.Role) (sym (c.as_str.ensures.value ∙ c.in_ok-key.ensures))
          ∙ sym (c.in_ok-kept.ensures.found honest) ∙ c.in-Some.is) in
          absurd (false≢true (ap is_ok (c.in_err-read_role.ensures.again r.0 (readable.1.in_range r.0 r.1) r.2)));
      goes_on = c.in_ok-kept.ensures.call.goes_on;
    })

pub returns-clause-told : goal.returns-clause-told
returns-clause-told g c honest b sound told =
    let t = table (g.T.RecordsTx.seen c.args.tx.now) in
    let key = role_name c.args.mount.now c.args.name.now in
    let r = mapped role_row (get b.roles key) c.in-Some.kept
    (sym (role_told t b told key) ∙ ap (t kind.Role) (sym (c.as_str.ensures.value ∙ c.in_ok-key.ensures))
    ∙ sym (c.in_ok-kept.ensures.found honest) ∙ c.in-Some.is) in
    ap Some (ok_inj (c.in_ok-read_role.ensures.again r.0 (role_in_range key r.0 (sound key r.0 r.1)) r.2)) ∙ sym r.1

pub returns-in_default-clause-found : goal.returns-in_default-clause-found
returns-in_default-clause-found g c honest o at =
    let t = table (g.T.RecordsTx.seen c.args.tx.now) in
    sym (mapped_none role_row o
    (sym at.row ∙ ap (t kind.Role) (sym (c.as_str.ensures.value ∙ c.in_ok-key.ensures))
    ∙ sym (c.in_ok-kept.ensures.found honest) ∙ none_of _ c.in_default.not-Some))

pub returns-clause-found : goal.returns-clause-found
returns-clause-found g c honest o at =
    let t = table (g.T.RecordsTx.seen c.args.tx.now) in
    let r = mapped role_row o c.in-Some.kept
    (sym at.row ∙ ap (t kind.Role) (sym (c.as_str.ensures.value ∙ c.in_ok-key.ensures))
    ∙ sym (c.in_ok-kept.ensures.found honest) ∙ c.in-Some.is) in
    ap Some (ok_inj (c.in_ok-read_role.ensures.again r.0 (at.in_range r.0 r.1) r.2)) ∙ sym r.1

pub returns-clause-exact : goal.returns-clause-exact
returns-clause-exact g c honest =
    let t = table (g.T.RecordsTx.seen c.args.tx.now) in
    let read = c.in_ok-read_role.ensures.exact in
    record {
      in_range = λ x e. subst IsRoleInRange (same_Some _ _ e) read.0;
      row = ap (t kind.Role) (sym (c.as_str.ensures.value ∙ c.in_ok-key.ensures))
          ∙ sym (c.in_ok-kept.ensures.found honest) ∙ c.in-Some.is ∙ ap Some read.1;
    }
