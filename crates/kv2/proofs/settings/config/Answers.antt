use Rattle.records.specs.Words.{sym, ap, ◌∙◌, Some, get, mapped, mapped_none, mount_row, table_of, none_of, ok_inj}
use Rattle.kv2.proofs.SecretsTold.{has_mount}
use Rattle.kv2.proofs.settings.config.Goals as goal

pub returns-in_default-clause-told : goal.returns-in_default-clause-told
returns-in_default-clause-told g c honest b sound told =
    let has = has_mount b sound (table_of (g.T.RecordsTx.seen c.args.tx.now).rows) told c.args.mount.now in
    sym (mapped_none mount_row (get b.mounts c.args.mount.now)
    (sym has.row ∙ sym (c.in_ok-kept.ensures.found honest) ∙ none_of _ c.in_default.not-Some))

pub returns-in_err-read_mount-clause-wants : goal.returns-in_err-read_mount-clause-wants
returns-in_err-read_mount-clause-wants g c honest b sound told =
    let has = has_mount b sound (table_of (g.T.RecordsTx.seen c.args.tx.now).rows) told c.args.mount.now in
    let x = mapped mount_row (get b.mounts c.args.mount.now) c.in-Some.kept
    (sym has.row ∙ sym (c.in_ok-kept.ensures.found honest) ∙ c.in-Some.is) in
    absurd (let e = c.in_err-read_mount.ensures.again x.0 (has.in_range x.0 x.1) x.2 in cc)

pub returns-clause-told : goal.returns-clause-told
returns-clause-told g c honest b sound told =
    let has = has_mount b sound (table_of (g.T.RecordsTx.seen c.args.tx.now).rows) told c.args.mount.now in
    let x = mapped mount_row (get b.mounts c.args.mount.now) c.in-Some.kept
    (sym has.row ∙ sym (c.in_ok-kept.ensures.found honest) ∙ c.in-Some.is) in
    ap Some (ok_inj (c.in_ok-read_mount.ensures.again x.0 (has.in_range x.0 x.1) x.2)) ∙ sym x.1
