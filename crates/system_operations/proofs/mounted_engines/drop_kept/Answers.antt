use Rattle.broker_model.specs.Words.{drop_mount, drop_roles, honest_before, on_both, of_secrets, of_roles, forms}
use Rattle.broker_rows.specs.Words.{tells_part}
use Rattle.system_operations.proofs.MountAnswers.{represents-no_secrets, represents-no_roles, represents-no_leases}
use Rattle.system_operations.proofs.MountAnswers.{leases_there}
use Rattle.system_operations.proofs.mounted_engines.drop_kept.Goals as goal

pub returns-clause-told : goal.returns-clause-told
returns-clause-told g c honest who b st named =
    let seen = g.T.RecordsTx.seen in
    let name = c.args.name.now in
    let bare = honest_before (seen c.drop_roles.new.tx) (seen c.revoke_under.new.tx) _
    c.revoke_under.ensures.call.goes_on honest in
    let empty =
    honest_before (seen c.drop_mount.new.tx) (seen c.drop_roles.new.tx) _ c.drop_roles.ensures.call.goes_on bare in
    let old = (seen c.args.tx.now).rows in
    let mid = (seen c.drop_mount.new.tx).rows in
    let rest = (seen c.drop_roles.new.tx).rows in
    let new = (seen c.revoke_under.new.tx).rows in
    let second = drop_mount b name in
    let third = drop_roles second name in
    let no_secrets = represents-no_secrets b who old mid st name
    (c.in_ok-drop_mount.ensures.told empty b (tells_part of_secrets b old st) named)
    (c.in_ok-drop_mount.ensures.call.others empty) in
    let no_roles = represents-no_roles second who mid rest no_secrets name
    (c.in_ok-drop_roles.ensures.told bare second (tells_part of_roles second mid no_secrets))
    (c.in_ok-drop_roles.ensures.call.others bare) in
    on_both c.revoke_under.result (λ tells keeps. represents-no_leases third who rest new no_roles name tells keeps)
    (c.revoke_under.ensures.told honest forms third (leases_there third rest no_roles))
    (c.revoke_under.ensures.call.others honest)

pub returns-clause-wants : goal.returns-clause-wants
returns-clause-wants g c honest who b st named =
    let seen = g.T.RecordsTx.seen in
    let name = c.args.name.now in
    let bare = honest_before (seen c.drop_roles.new.tx) (seen c.revoke_under.new.tx) _
    c.revoke_under.ensures.call.goes_on honest in
    let empty =
    honest_before (seen c.drop_mount.new.tx) (seen c.drop_roles.new.tx) _ c.drop_roles.ensures.call.goes_on bare in
    let old = (seen c.args.tx.now).rows in
    let mid = (seen c.drop_mount.new.tx).rows in
    let rest = (seen c.drop_roles.new.tx).rows in
    let second = drop_mount b name in
    let third = drop_roles second name in
    let no_secrets = represents-no_secrets b who old mid st name
    (c.in_ok-drop_mount.ensures.told empty b (tells_part of_secrets b old st) named)
    (c.in_ok-drop_mount.ensures.call.others empty) in
    let no_roles = represents-no_roles second who mid rest no_secrets name
    (c.in_ok-drop_roles.ensures.told bare second (tells_part of_roles second mid no_secrets))
    (c.in_ok-drop_roles.ensures.call.others bare) in
    c.revoke_under.ensures.wants honest forms third (leases_there third rest no_roles)
