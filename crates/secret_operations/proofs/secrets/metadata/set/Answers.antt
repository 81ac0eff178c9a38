use Rattle.broker_model.specs.Words.{ap, sym, subst, ◌∙◌, Tells, of_secrets, IsSomeIn, IsWide, table_of, IsMeta}
use Rattle.broker_model.specs.Words.{secret_name, set_metadata_sound, is_secret_name, Settings, forms, given_settings}
use Rattle.kv2.specs.Secrets as secrets
use Rattle.broker_rows.specs.Words.{Context, tells_part}
use Rattle.secret_operations.proofs.GivenSettings.{metadata_in_range, within_limits}
use Rattle.secret_operations.proofs.SecretAnswers.{acts_changed}
use Rattle.secret_operations.proofs.SecretTables.{keeps_outside}
use Rattle.secret_operations.proofs.secrets.metadata.set.Goals as goal

-- the settings can be kept in a row
pub set_metadata-requires : goal.set_metadata-requires
set_metadata-requires g c =
    subst (λ (s : Settings). IsSomeIn IsMeta s.custom_metadata) (sym c.settings_given.ensures)
    (metadata_in_range c.args.asked c.requires)

pub returns-clause-told : goal.returns-clause-told
returns-clause-told g c named good who honest b starts fresh =
    let seen = g.T.RecordsTx.seen in
    let old = (seen c.args.tx.now).rows in
    let new = (seen c.set_metadata.new.tx).rows in
    let mount = c.args.mount.now in
    let path = c.args.path.now in
    let asked = c.args.asked in
    let st = starts.represents in
    let is_name = is_secret_name mount path named (record { good = good; utf8 = c.utf8.path }) in
    acts_changed b who old new (secrets.set_metadata b mount path (given_settings asked)).secrets st
    (set_metadata_sound forms who b st.sound mount path (given_settings asked) is_name (within_limits asked c.requires
    (subst (λ (s : Settings). IsSomeIn IsWide s.max_versions) c.settings_given.ensures
    c.in_ok-set_metadata.ensures.wide)))
    (subst (λ (s : Settings). Tells of_secrets (table_of new) (secrets.set_metadata b mount path s))
    c.settings_given.ensures
    (c.in_ok-set_metadata.ensures.told honest forms b st.sound.secrets (tells_part of_secrets b old st)
    (ap (λ (x : Context). x.clock) c.context.view_is ∙ sym starts.clock)))
    (keeps_outside (secret_name mount path) (table_of old) (table_of new)
    (c.in_ok-set_metadata.ensures.call.others honest))
