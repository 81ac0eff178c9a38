use Rattle.broker_model.specs.Words.{Ok, sym, ◌∙◌, names_of, plainly, of_secrets, none_of, forms, version_answered}
use Rattle.kv2.specs.Secrets as secrets
use Rattle.broker_rows.specs.Words.{still_represented, tells_part, acts_found, acts_absent}
use Rattle.secret_operations.proofs.secrets.versions.read.Goals as goal

pub returns-in_default-clause-told : goal.returns-in_default-clause-told
returns-in_default-clause-told g c who honest b starts fresh =
    let seen = g.T.RecordsTx.seen in
    let old = (seen c.args.tx.now).rows in
    let new = (seen c.read.new.tx).rows in
    let st = starts.represents in
    acts_absent b new who (λ v. plainly (version_answered (names_of c.args.context.now.words).request v) b)
    (secrets.read b c.args.mount.now c.args.path.now c.args.number)
    (sym (c.in_ok-found.ensures.told honest forms b st.sound.secrets (tells_part of_secrets b old st))
    ∙ none_of _ c.in_default.not-Some)
    (still_represented b old new (c.in_ok-found.ensures.call.same honest) st)

pub returns-clause-told : goal.returns-clause-told
returns-clause-told g c who honest b starts fresh =
    let seen = g.T.RecordsTx.seen in
    let old = (seen c.args.tx.now).rows in
    let new = (seen c.read.new.tx).rows in
    let st = starts.represents in
    acts_found b new who (λ v. plainly (version_answered (names_of c.args.context.now.words).request v) b)
    (secrets.read b c.args.mount.now c.args.path.now c.args.number) c.in-Some.found
    (Ok c.in_ok-version_answered.field-0)
    (sym (c.in_ok-found.ensures.told honest forms b st.sound.secrets (tells_part of_secrets b old st)) ∙ c.in-Some.is)
    (c.in_ok-version_answered.ensures, still_represented b old new (c.in_ok-found.ensures.call.same honest) st)
