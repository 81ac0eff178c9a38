use Rattle.broker_model.specs.Words.{Ok, Err, ap, sym, subst, ◌∙◌, err_from_is_err_and, nothing, plainly, Sound}
use Rattle.broker_model.specs.Words.{of_secrets, is_secret_name, forms}
use Rattle.broker_rows.specs.Words.{ActsAs, tells_part}
use Rattle.broker_rows.specs.declared.answered.Answered.TheVariants.{Nothing}
use Rattle.secret_operations.specs.VersionChanges.{IsTimely, change_of}
use Rattle.secret_operations.proofs.Changes.{acts_on_versions, as_changed, changed_sound}
use Rattle.secret_operations.proofs.secrets.changes.change_versions.Goals as goal

pub returns-in_err-change_rows-clause-told : goal.returns-in_err-change_rows-clause-told
returns-in_err-change_rows-clause-told g c named good who x timely honest b starts fresh =
    let p = err_from_is_err_and c.from_residual.result c.from_residual.ensures.1 in
    rw (p.1 ∙ ap Err p.2)
    (c.in_err-change_rows.ensures.wants honest forms b starts.represents.sound.secrets
    (tells_part of_secrets b (g.T.RecordsTx.seen c.args.tx.now).rows starts.represents)
    (is_secret_name c.args.mount.now c.args.path.now named (record { good = good; utf8 = c.utf8.path })))

pub returns-clause-told : goal.returns-clause-told
returns-clause-told g c named good who x timely honest b starts fresh =
    let seen = g.T.RecordsTx.seen in
    let mount = c.args.mount.now in
    let path = c.args.path.now in
    let ns = c.args.numbers.now in
    let st = starts.represents in
    let timely_there = subst (λ n. IsTimely n c.args.change) (sym starts.clock) timely in
    let is = as_changed b mount path ns c.args.change timely_there in
    subst (λ next. ActsAs who b (seen c.change_rows.new.tx).rows (Ok Nothing) (Ok (plainly nothing next))) is
    (acts_on_versions (change_of c.args.change) ns mount path (seen c.args.tx.now) (seen c.change_rows.new.tx)
    c.in_ok-change_rows.field-0 c.in_ok-change_rows.ensures honest b who st
    (is_secret_name mount path named (record { good = good; utf8 = c.utf8.path }))
    (subst (Sound forms who) (sym is) (changed_sound b mount path ns who st.sound c.args.change)))
