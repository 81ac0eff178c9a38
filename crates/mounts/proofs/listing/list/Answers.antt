use Rattle.std.proofs.Common.{◌≡◌, sym, ap, subst, ◌∙◌, Err, codes, map, All}
use Rattle.records.specs.Words.{err_from_is_err_and, entries, not_damaged, decode_fault, RowKey}
use Rattle.mounts.specs.Words.{Row, IsMountRow, at_mount, placed}
use Rattle.mounts.specs.declared.mount_type.MountType.TheVariants as mount
use Rattle.mounts.proofs.MountLists.{listed_is, rows_are, each_in_range}
use Rattle.mounts.proofs.listing.list.Goals as goal

pub returns-in_err-list-clause-told : goal.returns-in_err-list-clause-told
returns-in_err-list-clause-told g c honest mounts are =
    let rows = (g.T.RecordsTx.seen c.args.tx.now).rows in
    let read : c.deref.result.now ≡ map at_mount (entries mounts) = c.deref.ensures.value
    ∙ c.in_ok-rows.ensures.entries honest ∙ rows_are rows mounts are in
    let p = err_from_is_err_and c.from_residual-in_err-list.result c.from_residual-in_err-list.ensures.1 in
    rw (p.1 ∙ ap Err p.2) (not_damaged {P = ⊥} (λ none. none) c.in_err-list.field-0.0
    (decode_fault (λ damaged. damaged (entries mounts) (each_in_range rows mounts are) read) c.in_err-list.field-0.0
    c.in_err-list.ensures.faults))

pub returns-clause-told : goal.returns-clause-told
returns-clause-told g c honest mounts are =
    let rows = (g.T.RecordsTx.seen c.args.tx.now).rows in
    let read : c.deref.result.now ≡ map at_mount (entries mounts) = c.deref.ensures.value
    ∙ c.in_ok-rows.ensures.entries honest ∙ rows_are rows mounts are in
    c.in_ok-put_type-2.ensures
    ∙ ap (λ list. placed list (codes "sys", mount.System)) (c.in_ok-put_type.ensures
    ∙ ap (λ list. placed list (codes "cubbyhole", mount.Cubbyhole))
    (c.in_ok-list.ensures.told (entries mounts) (each_in_range rows mounts are) read))
    ∙ sym (listed_is mounts)

pub returns-clause-readable : goal.returns-clause-readable
returns-clause-readable g c honest =
    subst (λ rows. All (λ (e : RowKey × Row). IsMountRow e.1) rows)
    (c.deref.ensures.value ∙ c.in_ok-rows.ensures.entries honest) c.in_ok-list.ensures.readable
