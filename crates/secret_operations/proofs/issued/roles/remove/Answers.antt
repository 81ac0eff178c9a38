use Rattle.broker_model.specs.Words.{refl, without, rows_of-other_roles, of_roles, remove_role_sound, role_name}
use Rattle.broker_model.specs.Words.{remove_role, forms}
use Rattle.broker_rows.specs.Words.{represents_next, tells_part}
use Rattle.secret_operations.proofs.issued.roles.remove.Goals as goal

pub returns-clause-told : goal.returns-clause-told
returns-clause-told g c who x honest b starts fresh =
    let seen = g.T.RecordsTx.seen in
    let old = (seen c.args.tx.now).rows in
    let new = (seen c.remove_role.new.tx).rows in
    let mount = c.args.mount.now in
    let name = c.args.name.now in
    let st = starts.represents in (
      refl,
      represents_next of_roles b (remove_role b mount name) old new st
          (remove_role_sound forms who b st.sound mount name)
          (rows_of-other_roles b (without b.roles (role_name mount name)))
          (c.in_ok-remove_role.ensures.told honest b (tells_part of_roles b old st))
          (c.in_ok-remove_role.ensures.call.others honest),
    )
