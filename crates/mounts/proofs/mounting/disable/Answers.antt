use Rattle.std.proofs.Common.{◌≡◌, sym, ap, ◌∙◌, not, true, Bool, false, is_some, rules}
use Rattle.records.specs.Words.{list_any, get, without, same, ends_unless, honest_before, mount_row, table_of}
use Rattle.records.specs.Words.{without_row, table_of-remove}
use Rattle.broker_types.specs.declared.refusal.Refusal.TheVariants as refusal
use Rattle.broker_types.specs.declared.refusal.Reason.TheVariants as reason
use Rattle.records.specs.declared.kind.Kind.TheVariants as kind
use Rattle.mounts.specs.Words.{AreMounts, fixed_names}
use Rattle.mounts.proofs.MountEdits.{others_gone, mounts_gone, some_mapped}
use Rattle.mounts.proofs.mounting.disable.Goals as goal

pub returns-clause-rows : goal.returns-clause-rows
returns-clause-rows g c honest =
    let seen = g.T.RecordsTx.seen in
    let old = (seen c.args.tx.now).rows in
    let new = (seen c.remove.new.self).rows in
    let name = c.args.name.now in
    let before = honest_before (seen c.get.new.self)
    (seen c.remove.new.self) false c.in_ok-remove.ensures.call.goes_on honest in
    let free : not (list_any (same name) fixed_names) ≡ true = ap not (sym c.is_fixed.ensures ∙ c.if-is_fixed.false) in
    ends_unless {X = Bool} (not (list_any (same name) fixed_names)) (refusal.BadRequest reason.MountFixed)
    (λ was next. (was ≡ is_some (table_of old kind.Mount name)) × (table_of new ≡ next)) c.is_some-was_there.result
    (without_row (table_of old) kind.Mount name) free (
      c.is_some-was_there.ensures ∙ ap is_some (c.in_ok-get.ensures.found before),
      ap table_of (c.in_ok-remove.ensures.rows honest) ∙ table_of-remove (seen c.get.new.self).rows kind.Mount name
          ∙ (λ i. without_row (table_of (c.in_ok-get.ensures.call.same before i)) kind.Mount name),
    )

pub returns-clause-call : goal.returns-clause-call
returns-clause-call g c =
    let seen = g.T.RecordsTx.seen in
    let old = (seen c.args.tx.now).rows in
    let new = (seen c.remove.new.self).rows in
    let name = c.args.name.now in
    record {
      others = λ honest.
          let before = honest_before (seen c.get.new.self)
          (seen c.remove.new.self) false c.in_ok-remove.ensures.call.goes_on honest in
          others_gone (table_of old) (table_of new) name
          (ap table_of (c.in_ok-remove.ensures.rows honest) ∙ table_of-remove (seen c.get.new.self).rows kind.Mount name
          ∙ (λ i. without_row (table_of (c.in_ok-get.ensures.call.same before i)) kind.Mount name));
      faults = tt;
      goes_on = search rules;
    }

pub returns-clause-told : goal.returns-clause-told
returns-clause-told g c honest mounts are =
    let seen = g.T.RecordsTx.seen in
    let old = (seen c.args.tx.now).rows in
    let new = (seen c.remove.new.self).rows in
    let name = c.args.name.now in
    let before = honest_before (seen c.get.new.self)
    (seen c.remove.new.self) false c.in_ok-remove.ensures.call.goes_on honest in
    let free : not (list_any (same name) fixed_names) ≡ true = ap not (sym c.is_fixed.ensures ∙ c.if-is_fixed.false) in
    ends_unless {X = Bool} (not (list_any (same name) fixed_names)) (refusal.BadRequest reason.MountFixed)
    (λ was next. (was ≡ is_some (get mounts name)) × AreMounts (table_of new) next) c.is_some-was_there.result
    (without mounts name) free (
      c.is_some-was_there.ensures ∙ ap is_some (c.in_ok-get.ensures.found before ∙ (are name).row)
          ∙ some_mapped mount_row (get mounts name),
      mounts_gone (table_of old) (table_of new) name mounts
          (ap table_of (c.in_ok-remove.ensures.rows honest) ∙ table_of-remove (seen c.get.new.self).rows kind.Mount name
          ∙ (λ i. without_row (table_of (c.in_ok-get.ensures.call.same before i)) kind.Mount name)) are,
    )
