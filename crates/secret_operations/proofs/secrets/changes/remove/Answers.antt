use Rattle.broker_model.specs.Words.{of_secrets, table_of, secret_name, remove_key, remove_key_sound, is_secret_name}
use Rattle.broker_model.specs.Words.{forms}
use Rattle.broker_rows.specs.Words.{tells_part}
use Rattle.secret_operations.proofs.SecretAnswers.{acts_changed}
use Rattle.secret_operations.proofs.SecretTables.{keeps_outside}
use Rattle.secret_operations.proofs.secrets.changes.remove.Goals as goal

pub returns-clause-told : goal.returns-clause-told
returns-clause-told g c named good who x honest b starts fresh =
    let seen = g.T.RecordsTx.seen in
    let old = (seen c.args.tx.now).rows in
    let new = (seen c.remove_key.new.tx).rows in
    let mount = c.args.mount.now in
    let path = c.args.path.now in
    let st = starts.represents in
    acts_changed b who old new (remove_key b mount path).secrets st (remove_key_sound forms who b st.sound mount path)
    (c.in_ok-remove_key.ensures.told honest b (tells_part of_secrets b old st)
    (is_secret_name mount path named (record { good = good; utf8 = c.utf8.path })))
    (keeps_outside (secret_name mount path) (table_of old) (table_of new)
    (c.in_ok-remove_key.ensures.call.others honest))
