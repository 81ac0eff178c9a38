use Rattle.broker_model.specs.Words.{refl, of_mounts, set_config, set_config_sound, forms}
use Rattle.broker_rows.specs.Words.{tells_part}
use Rattle.secret_operations.proofs.SecretTables.{represents-settings}
use Rattle.secret_operations.proofs.secrets.settings.set.Goals as goal

pub returns-clause-told : goal.returns-clause-told
returns-clause-told g c path who x honest b starts fresh =
    let seen = g.T.RecordsTx.seen in
    let old = (seen c.args.tx.now).rows in
    let new = (seen c.set_config.new.tx).rows in
    let mount = c.args.mount.now in
    let asked = c.args.asked in
    let st = starts.represents in (
      refl,
      represents-settings b old new st mount (set_config b mount asked.cas_required asked.max_versions).mounts
          (set_config_sound forms who b st.sound mount asked.cas_required asked.max_versions
          c.in_ok-set_config.ensures.wide)
          (c.in_ok-set_config.ensures.told honest b st.sound.mounts (tells_part of_mounts b old st))
          (c.in_ok-set_config.ensures.call.others honest),
    )
