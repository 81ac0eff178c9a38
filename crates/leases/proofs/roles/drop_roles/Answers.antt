use Rattle.std.proofs.Common.{◌≡◌, [], ◌∙◌, ap, sym, subst}
use Rattle.records.specs.Words.{on_ok_weaker, of_roles, Tells, KeepsOthers, Table, table, without_under}
use Rattle.records.specs.declared.kind.Kind.TheVariants as kind
use Rattle.leases.specs.Words.{role_name, drop_roles}
use Rattle.leases.proofs.RoleEdits.{dropped_keeps, dropped_told}
use Rattle.leases.proofs.roles.drop_roles.Goals as goal

pub returns-clause-rows : goal.returns-clause-rows
returns-clause-rows g c honest =
    let old = table (g.T.RecordsTx.seen c.args.tx.now) in
    on_ok_weaker c.remove_under.result
    (λ rows. rows ∙ ap (without_under old kind.Role) (c.as_str.ensures.value ∙ c.in_ok-key.ensures))
    (c.remove_under.ensures.rows honest)

pub returns-clause-call : goal.returns-clause-call
returns-clause-call g c = record {
  others = λ honest.
      let old = table (g.T.RecordsTx.seen c.args.tx.now) in
      let new = table (g.T.RecordsTx.seen c.remove_under.new.tx) in
      on_ok_weaker {P = new ≡ without_under old kind.Role (role_name c.args.mount.now [])} c.remove_under.result
      (λ rows. subst (λ (t : Table). KeepsOthers of_roles old t) (sym rows)
      (dropped_keeps old (role_name c.args.mount.now []))) (returns-clause-rows g c honest);
  faults = c.remove_under.ensures.call.faults;
  goes_on = c.remove_under.ensures.call.goes_on;
}

pub returns-clause-told : goal.returns-clause-told
returns-clause-told g c honest b told =
    let old = table (g.T.RecordsTx.seen c.args.tx.now) in
    let mount = c.args.mount.now in
    let new = table (g.T.RecordsTx.seen c.remove_under.new.tx) in
    on_ok_weaker {P = new ≡ without_under old kind.Role (role_name mount [])} c.remove_under.result
    (λ rows. subst (λ (t : Table). Tells of_roles t (drop_roles b mount)) (sym rows)
    (dropped_told old b told (role_name mount []))) (returns-clause-rows g c honest)
