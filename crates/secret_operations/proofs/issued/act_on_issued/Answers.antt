use Rattle.std.proofs.Common.{◌≡◌, Some, true, refl, sym, subst}
use Rattle.broker_model.specs.Words.{is_mount_name, Place}
use Rattle.secret_operations.proofs.issued.act_on_issued.Goals as goal

pub returns-in-SetRole-clause-told : goal.returns-in-SetRole-clause-told
returns-in-SetRole-clause-told g c named honest b starts new =
    let mount = subst (λ (p : Place). is_mount_name p.mount ≡ true) (sym c.place.view_is) named in
    rw (c.in-SetRole.is, ← c.place.view_is)
    (c.set.ensures.told mount (Some c.args.caller.now.token) c.args.context.now honest b starts.begins refl)

pub returns-in-RemoveRole-clause-told : goal.returns-in-RemoveRole-clause-told
returns-in-RemoveRole-clause-told g c named honest b starts new =
    rw (c.in-RemoveRole.is, ← c.place.view_is)
    (c.remove.ensures.told (Some c.args.caller.now.token) c.args.context.now honest b starts.begins refl)
