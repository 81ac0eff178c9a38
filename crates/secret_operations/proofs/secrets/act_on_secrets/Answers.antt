use Rattle.std.proofs.Common.{◌≡◌, true, ap, sym, subst}
use Rattle.broker_model.specs.Words.{is_mount_name, is_path, Place}
use Rattle.broker_rows.specs.Words.{Context}
use Rattle.secret_operations.specs.Paths.{needs_path}
use Rattle.secret_operations.proofs.secrets.act_on_secrets.Goals as goal

pub returns-in-ShowSettings-clause-told : goal.returns-in-ShowSettings-clause-told
returns-in-ShowSettings-clause-told g c named good who =
    rw (c.in-ShowSettings.is, ← c.place.view_is) (c.show.ensures.told c.place.inside.path.now who)

pub returns-in-SetSettings-clause-told : goal.returns-in-SetSettings-clause-told
returns-in-SetSettings-clause-told g c named good who =
    rw (c.in-SetSettings.is, ← c.place.view_is) (c.set.ensures.told c.place.inside.path.now who c.args.context.now)

pub returns-in-Delete-clause-told : goal.returns-in-Delete-clause-told
returns-in-Delete-clause-told g c named good who =
    let mount = subst (λ (p : Place). is_mount_name p.mount ≡ true) (sym c.place.view_is) named in
    let path =
    subst (λ (p : Place). is_path p.path ≡ true) (sym c.place.view_is) (good (ap needs_path c.in-Delete.is)) in
    rw (c.in-Delete.is, ← c.place.view_is, ← c.as_slice.ensures)
    (c.change_versions.ensures.told mount path who c.args.context.now
    (sym (ap (λ (x : Context). x.clock) c.context.view_is)))

pub returns-in-Undelete-clause-told : goal.returns-in-Undelete-clause-told
returns-in-Undelete-clause-told g c named good who =
    let mount = subst (λ (p : Place). is_mount_name p.mount ≡ true) (sym c.place.view_is) named in
    let path =
    subst (λ (p : Place). is_path p.path ≡ true) (sym c.place.view_is) (good (ap needs_path c.in-Undelete.is)) in
    rw (c.in-Undelete.is, ← c.place.view_is, ← c.as_slice-in-Undelete.ensures)
    (c.change_versions-in-Undelete.ensures.told mount path who c.args.context.now tt)

pub returns-in-Destroy-clause-told : goal.returns-in-Destroy-clause-told
returns-in-Destroy-clause-told g c named good who =
    let mount = subst (λ (p : Place). is_mount_name p.mount ≡ true) (sym c.place.view_is) named in
    let path =
    subst (λ (p : Place). is_path p.path ≡ true) (sym c.place.view_is) (good (ap needs_path c.in-Destroy.is)) in
    rw (c.in-Destroy.is, ← c.place.view_is, ← c.as_slice-in-Destroy.ensures)
    (c.change_versions-in-Destroy.ensures.told mount path who c.args.context.now tt)

pub returns-in-Remove-clause-told : goal.returns-in-Remove-clause-told
returns-in-Remove-clause-told g c named good who =
    let mount = subst (λ (p : Place). is_mount_name p.mount ≡ true) (sym c.place.view_is) named in
    let path =
    subst (λ (p : Place). is_path p.path ≡ true) (sym c.place.view_is) (good (ap needs_path c.in-Remove.is)) in
    rw (c.in-Remove.is, ← c.place.view_is) (c.remove.ensures.told mount path who c.args.context.now)
