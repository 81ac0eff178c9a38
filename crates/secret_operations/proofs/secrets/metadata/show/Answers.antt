use Rattle.broker_model.specs.Words.{None, Ok, ap, sym, ◌∙◌, key_object, plain_reply, names_of, reply, plainly}
use Rattle.broker_model.specs.Words.{of_secrets, none_of, Metadata, forms, metadata_reply}
use Rattle.kv2.specs.Secrets as secrets
use Rattle.broker_rows.specs.Words.{still_represented, tells_part, acts_found, acts_absent}
use Rattle.secret_operations.proofs.secrets.metadata.show.Goals as goal

pub returns-in_default-clause-told : goal.returns-in_default-clause-told
returns-in_default-clause-told g c who honest b starts fresh =
    let seen = g.T.RecordsTx.seen in
    let old = (seen c.args.tx.now).rows in
    let new = (seen c.metadata.new.tx).rows in
    let request = (names_of c.args.context.now.words).request in
    let st = starts.represents in
    acts_absent b new who (λ (m : Metadata). plainly (reply (metadata_reply request m) None) b)
    (secrets.metadata b c.args.mount.now c.args.path.now)
    (sym (c.in_ok-found.ensures.told honest forms b st.sound.secrets (tells_part of_secrets b old st))
    ∙ none_of _ c.in_default.not-Some)
    (still_represented b old new (c.in_ok-found.ensures.call.same honest) st)

pub returns-clause-told : goal.returns-clause-told
returns-clause-told g c who honest b starts fresh =
    let seen = g.T.RecordsTx.seen in
    let old = (seen c.args.tx.now).rows in
    let new = (seen c.metadata.new.tx).rows in
    let request = (names_of c.args.context.now.words).request in
    let st = starts.represents in
    acts_found b new who (λ (m : Metadata). plainly (reply (metadata_reply request m) None) b)
    (secrets.metadata b c.args.mount.now c.args.path.now) c.in-Some.found (Ok c.in_ok-shown.field-0)
    (sym (c.in_ok-found.ensures.told honest forms b st.sound.secrets (tells_part of_secrets b old st)) ∙ c.in-Some.is) (
      c.in_ok-shown.ensures
          ∙ ap (λ o. reply (plain_reply request o) None)
          (c.in_ok-object.ensures ∙ ap key_object c.in_ok-told.ensures),
      still_represented b old new (c.in_ok-found.ensures.call.same honest) st,
    )
