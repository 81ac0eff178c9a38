use Rattle.std.proofs.Common.{◌≡◌, ◌<◌, ◌^◌, sym, ap, subst, ◌∙◌, is_some, Ok, Bool, false, lit<, rules}
use Rattle.records.specs.Words.{Mount, get, put, honest_before, IsMountInRange, mount_row, table_of, with_row}
use Rattle.records.specs.Words.{table_of-insert}
use Rattle.records.specs.declared.kind.Kind.TheVariants as kind
use Rattle.mounts.specs.Words.{AreMounts, new_mount, new_mount_is}
use Rattle.mounts.proofs.MountEdits.{ends_then, others_put, mounts_put, some_mapped}
use Rattle.mounts.proofs.mounting.enable.Goals as goal

pub returns-clause-rows : goal.returns-clause-rows
returns-clause-rows g c honest =
    let seen = g.T.RecordsTx.seen in
    let old = (seen c.args.tx.now).rows in
    let new = (seen c.put.new.self).rows in
    let name = c.args.name.now in
    let m : Mount = c.in_ok-mount.mount in
    let before = honest_before (seen c.get.new.self)
    (seen c.put.new.self) false c.in_ok-put.ensures.call.goes_on honest in
    let there : is_some (table_of old kind.Mount name) ≡ c.is_some-is_there.result =
    sym (c.is_some-is_there.ensures ∙ ap is_some (c.in_ok-get.ensures.found before)) in
    ends_then {X = Unit {0}} (new_mount (is_some (table_of old kind.Mount name)) name c.args.type_name.now
    c.args.version) m (λ _ next. table_of new ≡ next) tt
    (λ z. with_row (table_of old) kind.Mount name (mount_row z))
    (ap (λ (v : Bool). new_mount v name c.args.type_name.now c.args.version) there ∙ sym c.in_ok-mount.ensures)
    (ap table_of (c.in_ok-put.ensures.rows honest)
    ∙ table_of-insert (seen c.get.new.self).rows kind.Mount name c.in_ok-row.row
    ∙ (λ i. with_row (table_of (c.in_ok-get.ensures.call.same before i)) kind.Mount name (c.in_ok-row.ensures i)))

pub returns-clause-call : goal.returns-clause-call
returns-clause-call g c =
    let seen = g.T.RecordsTx.seen in
    let old = (seen c.args.tx.now).rows in
    let new = (seen c.put.new.self).rows in
    let name = c.args.name.now in
    record {
      others = λ honest.
          let before = honest_before (seen c.get.new.self)
          (seen c.put.new.self) false c.in_ok-put.ensures.call.goes_on honest in
          others_put (table_of old) (table_of new) name c.in_ok-row.row
          (ap table_of (c.in_ok-put.ensures.rows honest)
          ∙ table_of-insert (seen c.get.new.self).rows kind.Mount name c.in_ok-row.row
          ∙ (λ i. with_row (table_of (c.in_ok-get.ensures.call.same before i)) kind.Mount name c.in_ok-row.row));
      faults = tt;
      goes_on = search rules;
    }

pub returns-clause-told : goal.returns-clause-told
returns-clause-told g c honest mounts are =
    let seen = g.T.RecordsTx.seen in
    let old = (seen c.args.tx.now).rows in
    let new = (seen c.put.new.self).rows in
    let name = c.args.name.now in
    let m : Mount = c.in_ok-mount.mount in
    let before = honest_before (seen c.get.new.self)
    (seen c.put.new.self) false c.in_ok-put.ensures.call.goes_on honest in
    let there : is_some (get mounts name) ≡ c.is_some-is_there.result =
    sym (c.is_some-is_there.ensures ∙ ap is_some (c.in_ok-get.ensures.found before ∙ (are name).row)
    ∙ some_mapped mount_row (get mounts name)) in
    let made : new_mount c.is_some-is_there.result name c.args.type_name.now c.args.version ≡ Ok m =
    sym c.in_ok-mount.ensures in
    let new_is = new_mount_is c.is_some-is_there.result name c.args.type_name.now c.args.version m made in
    let good : IsMountInRange m = subst (λ k. k < 2 ^ 64) (sym new_is.max_versions) (lit< tt) in
    ends_then {X = Unit {0}} (new_mount (is_some (get mounts name)) name c.args.type_name.now c.args.version) m
    (λ _ next. AreMounts (table_of new) next) tt
    (λ z. put mounts name z)
    (ap (λ (v : Bool). new_mount v name c.args.type_name.now c.args.version) there ∙ made)
    (mounts_put (table_of old) (table_of new) name mounts m good
    (ap table_of (c.in_ok-put.ensures.rows honest)
    ∙ table_of-insert (seen c.get.new.self).rows kind.Mount name c.in_ok-row.row
    ∙ (λ i. with_row (table_of (c.in_ok-get.ensures.call.same before i)) kind.Mount name (c.in_ok-row.ensures i))) are)
