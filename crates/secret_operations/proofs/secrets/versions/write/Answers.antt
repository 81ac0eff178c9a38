use Rattle.broker_model.specs.Words.{None, Err, ap, sym, subst, ◌∙◌, IsUtf8, ⊤, err_from_is_err_and, version_object}
use Rattle.broker_model.specs.Words.{plain_reply, names_of, reply, EndsOk, EndsErr, of_secrets, of_mounts, WriteAnswer}
use Rattle.broker_model.specs.Words.{forms, at, version_made, written_reply}
use Rattle.kv2.specs.Secrets as secrets
use Rattle.broker_rows.specs.Words.{Context, tells_part}
use Rattle.secret_operations.proofs.SecretAnswers.{IsWrittenAs, acts_written, acts_not_written}
use Rattle.secret_operations.proofs.secrets.versions.write.Goals as goal

pub returns-in_err-written-clause-told : goal.returns-in_err-written-clause-told
returns-in_err-written-clause-told g c good who honest b starts fresh =
    let seen = g.T.RecordsTx.seen in
    let old = (seen c.args.tx.now).rows in
    let new = (seen c.write.new.tx).rows in
    let mount = c.args.mount.now in
    let path = c.args.path.now in
    let asked = c.args.asked in
    let st = starts.represents in
    let error = c.in_err-written.field-0.0 in
    let p = err_from_is_err_and c.from_residual.result c.from_residual.ensures.1 in
    let ends = c.in_err-written.ensures.told honest forms b st.sound.secrets st.sound.mounts
    (tells_part of_secrets b old st) (tells_part of_mounts b old st)
    (ap (λ (x : Context). x.clock) c.context.view_is ∙ sym starts.clock) (record { good = good; utf8 = c.utf8.path }) in
    rw (p.1 ∙ ap Err p.2)
    (acts_not_written b who old new (names_of c.args.context.now.words) (at mount path) asked st error
    (subst (λ object. EndsErr ⊤ error (secrets.write b mount path asked.cas object)) c.as_str-text.ensures ends)
    (c.in_err-written.ensures.refused honest))

pub returns-clause-told : goal.returns-clause-told
returns-clause-told g c good who honest b starts fresh =
    let seen = g.T.RecordsTx.seen in
    let old = (seen c.args.tx.now).rows in
    let new = (seen c.write.new.tx).rows in
    let names = names_of c.args.context.now.words in
    let mount = c.args.mount.now in
    let path = c.args.path.now in
    let asked = c.args.asked in
    let st = starts.represents in
    let text = c.as_str-text.ensures in
    let clock = ap (λ (x : Context). x.clock) c.context.view_is ∙ sym starts.clock in
    let kept = c.requires in
    let ends = c.in_ok-written.ensures.told honest forms b st.sound.secrets st.sound.mounts
    (tells_part of_secrets b old st) (tells_part of_mounts b old st)
    clock (record { good = good; utf8 = c.utf8.path }) in
    acts_written b who old new names (at mount path) asked st (record { good = good; utf8 = c.utf8.path })
    (record {
      object = kept.object;
      short = record { utf8 = subst IsUtf8 text c.as_str-text.utf8; short = kept.short };
    })
    (c.in_ok-written.ensures.call.others honest) c.in_ok-written.written c.context.inside.clock c.in_ok-shown.field-0
    clock
    (subst (λ object. EndsOk (IsWrittenAs new) c.in_ok-written.written (secrets.write b mount path asked.cas object))
    text ends)
    (c.in_ok-shown.ensures
    ∙ ap (λ o. reply (plain_reply names.request o) None)
    (c.in_ok-object.ensures ∙ ap (λ m. version_object m (version_made c.context.inside.clock c.written.inside.number))
    c.as_slice.ensures.value)
    ∙ ap (λ (v : WriteAnswer). reply (written_reply names.request c.context.inside.clock v.custom_metadata v.number)
    None) c.written.view_is)
