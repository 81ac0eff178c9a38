use Rattle.broker_model.specs.Words.{Err, ap, sym, ◌∙◌, err_from_is_err_and, of_secrets, table_of, secret_name}
use Rattle.broker_model.specs.Words.{is_secret_name, forms}
use Rattle.kv2.specs.Secrets.{delete}
use Rattle.kv2.specs.SoundLaws.{delete_sound}
use Rattle.broker_rows.specs.Words.{Context, tells_part}
use Rattle.secret_operations.proofs.SecretAnswers.{acts_changed}
use Rattle.secret_operations.proofs.SecretTables.{keeps_outside}
use Rattle.secret_operations.proofs.secrets.changes.delete_current.Goals as goal

pub returns-in_err-delete-clause-told : goal.returns-in_err-delete-clause-told
returns-in_err-delete-clause-told g c named good who honest b starts fresh =
    let p = err_from_is_err_and c.from_residual.result c.from_residual.ensures.1 in
    rw (p.1 ∙ ap Err p.2)
    (c.in_err-delete.ensures.wants honest forms b starts.represents.sound.secrets
    (tells_part of_secrets b (g.T.RecordsTx.seen c.args.tx.now).rows starts.represents)
    (is_secret_name c.args.mount.now c.args.path.now named (record { good = good; utf8 = c.utf8.path })))

pub returns-clause-told : goal.returns-clause-told
returns-clause-told g c named good who honest b starts fresh =
    let seen = g.T.RecordsTx.seen in
    let old = (seen c.args.tx.now).rows in
    let new = (seen c.delete.new.tx).rows in
    let mount = c.args.mount.now in
    let path = c.args.path.now in
    let st = starts.represents in
    acts_changed b who old new (delete b mount path).secrets st (delete_sound forms who b st.sound mount path)
    (c.in_ok-delete.ensures.told honest forms b st.sound.secrets (tells_part of_secrets b old st)
    (ap (λ (x : Context). x.clock) c.context.view_is ∙ sym starts.clock)
    (is_secret_name mount path named (record { good = good; utf8 = c.utf8.path })))
    (keeps_outside (secret_name mount path) (table_of old) (table_of new) (c.in_ok-delete.ensures.call.others honest))
