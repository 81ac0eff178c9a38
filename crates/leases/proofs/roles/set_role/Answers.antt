use Rattle.std.proofs.Common.{◌≡◌, true, refl, ap, sym, subst, ◌∙◌}
use Rattle.records.specs.Words.{Broker, Role, put, is_name, ends_unless, of_roles, Tells, KeepsOthers, role_row, Table}
use Rattle.records.specs.Words.{table_of, with_row, table_of-insert, with_row_keeps}
use Rattle.broker_types.specs.declared.refusal.Refusal.TheVariants as refusal
use Rattle.broker_types.specs.declared.refusal.Reason.TheVariants as reason
use Rattle.records.specs.declared.kind.Kind.TheVariants as kind
use Rattle.leases.specs.Words.{role_name}
use Rattle.leases.proofs.RoleEdits.{put_told}
use Rattle.leases.proofs.roles.set_role.Goals as goal

pub returns-clause-rows : goal.returns-clause-rows
returns-clause-rows g c honest =
    let seen = g.T.RecordsTx.seen in
    let old = (seen c.args.tx.now).rows in
    let new = (seen c.put.new.self).rows in
    let key = role_name c.args.mount.now c.args.name.now in
    let r : Role = record { ttl = c.args.ttl; max_ttl = c.args.max_ttl } in
    let is : ◌≡◌ {A = Role} (record { ttl = c.from.result; max_ttl = c.from-2.result }) r =
    λ i. record { ttl = (c.from.ensures ∙ c.count.ensures) i; max_ttl = (c.from-2.ensures ∙ c.count-2.ensures) i } in
    let named : is_name c.args.name.now ≡ true = sym c.is_name.ensures ∙ c.if-not-is_name.false in
    ends_unless {X = Unit {0}} (is_name c.args.name.now) (refusal.BadRequest reason.InvalidName)
    (λ _ next. table_of new ≡ next) tt
    (with_row (table_of old) kind.Role key (role_row r)) named
    (ap table_of (c.in_ok-put.ensures.rows honest) ∙ table_of-insert old kind.Role c.as_str.result.now c.in_ok-row.row
    ∙ (λ i. with_row (table_of old) kind.Role ((c.as_str.ensures.value ∙ c.in_ok-key.ensures) i)
    ((c.in_ok-row.ensures ∙ ap role_row is) i)))

pub returns-clause-call : goal.returns-clause-call
returns-clause-call g c =
    let seen = g.T.RecordsTx.seen in
    let old = (seen c.args.tx.now).rows in
    record {
      others = λ honest. subst (λ (t : Table). KeepsOthers of_roles (table_of old) t)
          (sym (ap table_of (c.in_ok-put.ensures.rows honest)
          ∙ table_of-insert old kind.Role c.as_str.result.now c.in_ok-row.row))
          (with_row_keeps of_roles (table_of old) kind.Role c.as_str.result.now c.in_ok-row.row refl);
      faults = tt;
      goes_on = c.in_ok-put.ensures.call.goes_on;
    }

pub returns-clause-told : goal.returns-clause-told
returns-clause-told g c honest b told =
    let seen = g.T.RecordsTx.seen in
    let old = (seen c.args.tx.now).rows in
    let new = (seen c.put.new.self).rows in
    let key = role_name c.args.mount.now c.args.name.now in
    let r : Role = record { ttl = c.args.ttl; max_ttl = c.args.max_ttl } in
    let is : ◌≡◌ {A = Role} (record { ttl = c.from.result; max_ttl = c.from-2.result }) r =
    λ i. record { ttl = (c.from.ensures ∙ c.count.ensures) i; max_ttl = (c.from-2.ensures ∙ c.count-2.ensures) i } in
    let named : is_name c.args.name.now ≡ true = sym c.is_name.ensures ∙ c.if-not-is_name.false in
    let next : Broker = record b { roles = put b.roles key r } in
    ends_unless {X = Unit {0}} (is_name c.args.name.now) (refusal.BadRequest reason.InvalidName)
    (λ _ next. Tells of_roles (table_of new) next) tt
    next named
    (subst (λ (t : Table). Tells of_roles t next)
    (sym (ap table_of (c.in_ok-put.ensures.rows honest)
    ∙ table_of-insert old kind.Role c.as_str.result.now c.in_ok-row.row
    ∙ (λ i. with_row (table_of old) kind.Role ((c.as_str.ensures.value ∙ c.in_ok-key.ensures) i)
    ((c.in_ok-row.ensures ∙ ap role_row is) i))))
    (put_told (table_of old) b told key r))
