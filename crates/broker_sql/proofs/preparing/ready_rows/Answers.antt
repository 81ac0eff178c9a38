use Rattle.std.proofs.Common.{◌≡◌, Ok, Err, Result, sym, ap, ◌∙◌}
use Rattle.broker_model.specs.Words.{err_from_is_err_and, honest_before, Fault, BadStart, IsHonest}
use Rattle.broker_rows.specs.Words.{HasNoClock}
use Rattle.broker_sql.proofs.StartLemmas.{cannot_start, none_of, started}
use Rattle.broker_sql.proofs.preparing.ready_rows.Goals as goal

abbrev fault_of : {A : Type 0} → Fault → Result A Fault → Fault
fault_of fault (Ok x) = fault
fault_of fault (Err e) = e

pub returns-in_err-root-clause-bad_start : goal.returns-in_err-root-clause-bad_start
returns-in_err-root-clause-bad_start g c honest is =
    let left = err_from_is_err_and c.from_residual-in_err-root.result c.from_residual-in_err-root.ensures.1 in
    let same : c.in_err-root.field-0.0 ≡ BadStart = sym left.2 ∙ ap (fault_of BadStart) (sym left.1 ∙ is) in
    let looked : IsHonest (g.T.RecordsTx.seen c.get.new.self) =
    honest_before _ (g.T.RecordsTx.seen c.start_rows.new.tx) _ c.in_err-root.ensures.call.goes_on honest in
    let no_clock : HasNoClock (g.T.RecordsTx.seen c.args.tx.now).rows =
    sym (c.in_ok-get.ensures.found looked) ∙ none_of c.in_ok-get.field-0 c.if-is_some.ensures in
    cannot_start c.args.words.now _ _ _ (g.T.RecordsTx.seen c.get.new.self).rows c.token.ensures c.accessor.ensures
    (c.in_ok-get.ensures.call.same looked) no_clock (c.in_err-root.ensures.bad_start honest (ap Err same))

pub returns-clause-prepared : goal.returns-clause-prepared
returns-clause-prepared g c honest =
    let looked : IsHonest (g.T.RecordsTx.seen c.get.new.self) =
    honest_before _ (g.T.RecordsTx.seen c.start_rows.new.tx) _ c.in_ok-root.ensures.call.goes_on honest in
    started c.args.words.now _ _ _ (g.T.RecordsTx.seen c.get.new.self).rows c.token.ensures c.accessor.ensures
    (c.in_ok-get.ensures.call.same looked) c.args.moment _ c.in_ok-root.root (c.in_ok-root.ensures.empty honest)
    c.in_ok-root.ensures.differ (c.in_ok-root.ensures.told honest) c.in_ok-root.ensures.token
