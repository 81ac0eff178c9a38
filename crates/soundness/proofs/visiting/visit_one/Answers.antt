use Rattle.broker_model.specs.Words.{refl, ◌∙◌, ap, Row, RowKey}
use Rattle.soundness.proofs.WalkLemmas.{row_listed, row_walked}
use Rattle.soundness.proofs.visiting.visit_one.Goals as goal

pub returns-in_ok-push-clause-walked : goal.returns-in_ok-push-clause-walked
returns-in_ok-push-clause-walked g c honest numbered room =
    let done = c.in_ok-rule.ensures in
    row_listed (g.T.RecordsTx.seen c.args.tx.now).rows c.args.walk.now
    (record { notes = c.visit.new.notes; troubles = c.push.new.self; most = c.args.walk.now.most })
    c.args.entry.now done.rooted (done.spares honest numbered.is_row) refl c.args.number numbered room
    c.in_ok-rule.field-0 c.in-Some.rule c.in-Some.is (done.broken honest) c.in_ok-trouble.trouble
    c.in_ok-push.ensures.items
    (c.in_ok-trouble.ensures.0 ∙ ap (λ (e : RowKey × Row). e.0.0) c.entry.view_is)
    (c.in_ok-trouble.ensures.1 ∙ c.as_str.ensures ∙ ap (λ (e : RowKey × Row). e.0.1) c.entry.view_is)
    c.in_ok-trouble.ensures.2 c.in_ok-trouble.ensures.3

pub returns-in_default-clause-walked : goal.returns-in_default-clause-walked
returns-in_default-clause-walked g c honest numbered room =
    let done = c.in_ok-rule.ensures in
    row_walked (g.T.RecordsTx.seen c.args.tx.now).rows c.args.walk.now
    (record { notes = c.visit.new.notes; troubles = c.args.walk.now.troubles; most = c.args.walk.now.most })
    c.args.entry.now done.rooted (done.spares honest numbered.is_row) refl refl c.in_ok-rule.field-0
    c.in_default.is (done.passed honest)
