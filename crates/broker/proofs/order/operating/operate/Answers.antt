use Rattle.std.proofs.Common.{◌≡◌, true, sym, ap, ◌∙◌}
use Rattle.broker_model.specs.Words.{err_from_is_err_and, names_of, are_new, honest_before, needed_by}
use Rattle.broker_rows.specs.Words.{Context}
use Rattle.broker.specs.Askers.{who_of}
use Rattle.broker.specs.Meant.{meant}
use Rattle.broker.proofs.Asked.{begins_represented, begins_still}
use Rattle.broker.proofs.Routes.{operated_new}
use Rattle.broker.proofs.order.operating.operate.Goals as goal

pub returns-in_err-check-clause-told : goal.returns-in_err-check-clause-told
returns-in_err-check-clause-told g c placed honest b begins =
    let ask = c.args.ask.now in
    let names = names_of c.args.context.now.words in
    let command = meant c.args.command in
    let old = (g.T.RecordsTx.seen c.args.tx.now).rows in
    let st = begins_represented c.args.asker.now c.args.context.now old b begins in
    let needed = c.deref.ensures.value ∙ c.in_ok-needed.ensures.are
    ∙ ap (λ (x : Context). needed_by ask (names_of x.words) command) c.context.view_is in
    let p = err_from_is_err_and c.from_residual-in_err-check.result c.from_residual-in_err-check.ensures.1 in
    rw (p.1, p.2) (c.in_err-check.ensures.refused honest (who_of c.args.asker.now) b names st needed)

pub returns-clause-told : goal.returns-clause-told
returns-clause-told g c placed honest b begins =
    let seen = g.T.RecordsTx.seen in
    let who = who_of c.args.asker.now in
    let ask = c.args.ask.now in
    let names = names_of c.args.context.now.words in
    let command = meant c.args.command in
    let old = (seen c.args.tx.now).rows in
    let mid = (seen c.check.new.tx).rows in
    let st = begins_represented c.args.asker.now c.args.context.now old b begins in
    let before = honest_before (seen c.check.new.tx)
    (seen c.carry_out.new.tx) _ c.carry_out.ensures.call.goes_on honest in
    let same = c.in_ok-check.ensures.call.same before in
    let needed = c.deref.ensures.value ∙ c.in_ok-needed.ensures.are
    ∙ ap (λ (x : Context). needed_by ask (names_of x.words) command) c.context.view_is in
    let fresh : are_new b.used (needed_by ask names command) ≡ true =
    ap (are_new b.used) (sym needed) ∙ c.in_ok-check.ensures.fresh before who b st in
    operated_new b who names ask command (seen c.carry_out.new.tx).rows c.carry_out.result fresh
    c.in_ok-check.ensures.timed
    (c.carry_out.ensures.told placed honest b
    (begins_still c.args.asker.now c.args.context.now old mid b same begins) fresh)
