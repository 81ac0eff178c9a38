use Rattle.std.proofs.Common.{◌≡◌, ◌∙◌, ap, sym, subst}
use Rattle.std.specs.FinMap as map
use Rattle.records.specs.Words.{on_ok_weaker, Text, of_roles, Tells, KeepsOthers, Table, table, table_of, without_row}
use Rattle.records.specs.Words.{table_of-remove}
use Rattle.records.specs.declared.kind.Kind.TheVariants as kind
use Rattle.leases.specs.Words.{role_name, remove_role}
use Rattle.leases.proofs.RoleEdits.{gone_keeps, gone_told}
use Rattle.leases.proofs.roles.remove_role.Goals as goal

pub returns-clause-rows : goal.returns-clause-rows
returns-clause-rows g c honest =
    let old = (g.T.RecordsTx.seen c.args.tx.now).rows in
    let new = (g.T.RecordsTx.seen c.remove.new.self).rows in
    let key : Text = c.as_str.result.now in
    on_ok_weaker {P = new ≡ map.remove old (kind.Role, key)} c.remove.result (λ removed.
    ap table_of removed ∙ table_of-remove old kind.Role key
    ∙ ap (without_row (table_of old) kind.Role) (c.as_str.ensures.value ∙ c.in_ok-key.ensures))
    (c.remove.ensures.rows honest)

pub returns-clause-call : goal.returns-clause-call
returns-clause-call g c = record {
  others = λ honest.
      let old = table (g.T.RecordsTx.seen c.args.tx.now) in
      let new = table (g.T.RecordsTx.seen c.remove.new.self) in
      on_ok_weaker {P = new ≡ without_row old kind.Role (role_name c.args.mount.now c.args.name.now)} c.remove.result
      (λ rows. subst (λ (t : Table). KeepsOthers of_roles old t) (sym rows)
      (gone_keeps old (role_name c.args.mount.now c.args.name.now))) (returns-clause-rows g c honest);
  faults = c.remove.ensures.call.faults;
  goes_on = c.remove.ensures.call.goes_on;
}

pub returns-clause-told : goal.returns-clause-told
returns-clause-told g c honest b told =
    let old = table (g.T.RecordsTx.seen c.args.tx.now) in
    let mount = c.args.mount.now in
    let name = c.args.name.now in
    let new = table (g.T.RecordsTx.seen c.remove.new.self) in
    on_ok_weaker {P = new ≡ without_row old kind.Role (role_name mount name)} c.remove.result
    (λ rows. subst (λ (t : Table). Tells of_roles t (remove_role b mount name)) (sym rows)
    (gone_told old b told (role_name mount name))) (returns-clause-rows g c honest)
