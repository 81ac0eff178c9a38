use Rattle.std.proofs.Common.{◌≡◌, None, Some, ap, sym, subst, ◌∙◌, unwrap_or, option_map, rules}
use Rattle.records.specs.Words.{on_ok_weaker, err_from_is_err_and, get, Mount, honest_before, goes_further, of_mounts}
use Rattle.records.specs.Words.{Tells, mount_row, Table, table, table_of, with_row, table_of-insert, IsHonest, none_of}
use Rattle.records.specs.declared.kind.Kind.TheVariants as kind
use Rattle.kv2.specs.Words.{KeepsOtherMounts, set_config, with_settings}
use Rattle.kv2.specs.SecretRows as rows
use Rattle.kv2.proofs.Edits.{settings_told}
use Rattle.kv2.proofs.Others.{settings_keep}
use Rattle.kv2.proofs.SecretsTold.{has_mount}
use Rattle.kv2.proofs.settings.set_config.Goals as goal

pub returns-in_default-clause-told : goal.returns-in_default-clause-told
returns-in_default-clause-told g c honest b sound told =
    let old = table_of (g.T.RecordsTx.seen c.args.tx.now).rows in
    let mount = c.args.mount.now in
    let edit = with_settings c.args.cas_required c.args.max_versions in
    let next = set_config b mount c.args.cas_required c.args.max_versions in
    let none : get b.mounts mount ≡ None =
    sym (c.in_ok-found.ensures.found honest (get b.mounts mount) (has_mount b sound old told mount))
    ∙ none_of _ c.in_default.not-Some in
    subst (λ (t : Table). Tells of_mounts t next)
    (ap (λ o. rows.rows_with_settings old mount (option_map edit o)) none
    ∙ ap table_of (sym (c.in_ok-found.ensures.call.same honest)))
    (settings_told old b told mount c.args.cas_required c.args.max_versions)

pub returns-clause-rows : goal.returns-clause-rows
returns-clause-rows g c honest m has =
    let seen = g.T.RecordsTx.seen in
    let first : IsHonest (seen c.config.new.tx) = honest_before _ _ _ c.put.ensures.call.goes_on honest in
    let old = table_of (seen c.args.tx.now).rows in
    let mount = c.args.mount.now in
    let edit = with_settings c.args.cas_required c.args.max_versions in
    let some : Some c.in-Some.found ≡ m = sym c.in-Some.is ∙ c.in_ok-found.ensures.found first m has in
    let max = c.count_or.ensures.value
    ∙ ap (λ (m : Mount). unwrap_or c.args.max_versions m.max_versions) c.found.view_is in
    let cas = c.unwrap_or.ensures ∙ ap (λ (m : Mount). unwrap_or c.args.cas_required m.cas_required) c.found.view_is in
    on_ok_weaker c.put.result (λ put.
    ap table_of put ∙ table_of-insert (seen c.config.new.tx).rows kind.Mount mount c.in_ok-row.row
    ∙ (λ i. with_row (table_of (c.in_ok-found.ensures.call.same first i)) kind.Mount mount
    ((c.in_ok-row.ensures
    ∙ (λ j. mount_row (record { engine = (c.found.view_is j).engine; cas_required = cas j; max_versions = max j })))
    i))
    ∙ ap (λ o. rows.rows_with_settings old mount (option_map edit o)) some) (c.put.ensures.rows honest)

pub returns-clause-call : goal.returns-clause-call
returns-clause-call g c =
    let seen = g.T.RecordsTx.seen in
    let old = table (seen c.args.tx.now) in
    record {
      others = λ honest.
          let first : IsHonest (seen c.config.new.tx) = honest_before _ _ _ c.put.ensures.call.goes_on honest in
          on_ok_weaker c.put.result (λ rows. subst (λ (t : Table). KeepsOtherMounts c.args.mount.now old t) (sym rows)
          (settings_keep c.args.mount.now old _))
          (returns-clause-rows g c honest c.in_ok-found.field-0 (c.in_ok-found.ensures.exact first));
      faults = search rules;
      goes_on = goes_further _ _ _ _ c.in_ok-found.ensures.call.goes_on c.put.ensures.call.goes_on;
    }

pub returns-clause-told : goal.returns-clause-told
returns-clause-told g c honest b sound told =
    let old = table_of (g.T.RecordsTx.seen c.args.tx.now).rows in
    let mount = c.args.mount.now in
    on_ok_weaker c.put.result (λ rows. subst
    (λ (t : Table). Tells of_mounts t (set_config b mount c.args.cas_required c.args.max_versions)) (sym rows)
    (settings_told old b told mount c.args.cas_required c.args.max_versions))
    (returns-clause-rows g c honest (get b.mounts mount) (has_mount b sound old told mount))

pub returns-in_err-found-clause-wants : goal.returns-in_err-found-clause-wants
returns-in_err-found-clause-wants g c honest b sound told =
    let p = err_from_is_err_and c.from_residual.result c.from_residual.ensures.1 in
    rw (p.1, p.2) (c.in_err-found.ensures.faults honest (get b.mounts c.args.mount.now)
    (has_mount b sound (table_of (g.T.RecordsTx.seen c.args.tx.now).rows) told c.args.mount.now))

pub returns-in_err-found-clause-call : goal.returns-in_err-found-clause-call
returns-in_err-found-clause-call g c =
    let p = err_from_is_err_and c.from_residual.result c.from_residual.ensures.1 in
    rw (p.1, p.2) (record {
      others = λ _. tt;
      faults = c.in_err-found.ensures.call.faults;
      goes_on = c.in_err-found.ensures.call.goes_on;
    })
