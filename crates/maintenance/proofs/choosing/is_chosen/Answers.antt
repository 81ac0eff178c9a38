use Rattle.std.proofs.Common.{sym, ◌∙◌, ap, false, Option}
use Rattle.broker_model.specs.Words.{err_from_is_err_and, forms, option_map_or, TokenEntry}
use Rattle.broker_rows.specs.Words.{represents_tokens}
use Rattle.maintenance.specs.Choosing.{is_chosen}
use Rattle.maintenance.proofs.Told.{told_at}
use Rattle.maintenance.proofs.choosing.is_chosen.Goals as goal

pub returns-in_err-find-clause-wants : goal.returns-in_err-find-clause-wants
returns-in_err-find-clause-wants g c honest b st =
    let p = err_from_is_err_and c.from_residual.result c.from_residual.ensures.1 in
    rw (p.1, p.2)
    (c.in_err-find.ensures.wants honest forms b (represents_tokens b (g.T.RecordsTx.seen c.args.tx.now).rows st))

pub returns-in-None-clause-told : goal.returns-in-None-clause-told
returns-in-None-clause-told g c honest b st =
    let t = c.args.token.now in
    let p = is_chosen c.args.chosen.now in
    ap (λ (o : Option TokenEntry). option_map_or (p t) o false) (sym c.in-None.is)
    ∙ told_at p b t c.in_ok-find.field-0
    (c.in_ok-find.ensures.told honest forms b (represents_tokens b (g.T.RecordsTx.seen c.args.tx.now).rows st))

pub returns-in-Some-clause-told : goal.returns-in-Some-clause-told
returns-in-Some-clause-told g c honest b st =
    let t = c.args.token.now in
    let p = is_chosen c.args.chosen.now in
    c.chooses.ensures
    ∙ ap (λ (o : Option TokenEntry). option_map_or (p t) o false) (sym c.in-Some.is)
    ∙ told_at p b t c.in_ok-find.field-0
    (c.in_ok-find.ensures.told honest forms b (represents_tokens b (g.T.RecordsTx.seen c.args.tx.now).rows st))
