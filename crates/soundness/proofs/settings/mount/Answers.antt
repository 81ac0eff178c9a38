use Rattle.broker_model.specs.Words.{refl, sym, ◌∙◌, false≢true, IsMountInRange, mount_row}
use Rattle.soundness.proofs.ReadLemmas.{unread}
use Rattle.soundness.proofs.settings.mount.Goals as goal

pub returns-then-not-is_mount_name-clause-broken : goal.returns-then-not-is_mount_name-clause-broken
returns-then-not-is_mount_name-clause-broken c = λ rows is.
    false≢true (sym c.if-not-is_mount_name.true ∙ c.is_mount_name.ensures ∙ is)

pub returns-in-Err-clause-broken : goal.returns-in-Err-clause-broken
returns-in-Err-clause-broken c = λ rows. unread IsMountInRange mount_row c.args.row.now _ c.in-Err.ensures _ refl
