use Rattle.std.proofs.Common.{◌≡◌, Ok, Err, Result, sym, ap, subst, ◌∙◌}
use Rattle.records.specs.Words.{err_from_is_err_and, Fault, BadStart, IsHonestStore, Rows}
use Rattle.broker_rows.specs.Words.{HasNoClock}
use Rattle.broker_types.specs.OptionLaws.{of_none, of_some}
use Rattle.records_sql.specs.Words.{kept_records}
use Rattle.broker_sql.specs.Prepared.{CannotStart}
use Rattle.database_check.specs.Findings.{OpenAsNone}
use Rattle.hub.specs.declared.serve.ConnectionFault.TheVariants.{Broker, Read, Write}
use Rattle.broker_server.specs.declared.serve_error.ServeError.{ServeError}
use Rattle.broker_server.specs.declared.serve_error.ServeError.TheVariants.{Unsound, Faulted}
use Rattle.broker_server.proofs.PreparedLemmas.{checked_broker, honest_checked}
use Rattle.broker_server.proofs.preparing.prepare_checked.Goals as goal

abbrev error_of : {A : Type 0} → ServeError → Result A ServeError → ServeError
error_of error (Ok x) = error
error_of error (Err e) = e

-- the broker's fault that an error is
abbrev fault_in : ServeError → Fault
fault_in (Unsound defect) = BadStart
fault_in (Faulted (Broker fault)) = fault
fault_in (Faulted Read) = BadStart
fault_in (Faulted Write) = BadStart

pub returns-in_ok-prepare-in-None-clause-sound : goal.returns-in_ok-prepare-in-None-clause-sound
returns-in_ok-prepare-in-None-clause-sound g c honest =
    (checked_broker c.args.moment c.args.words.now (kept_records g.S.Store c.args.records.now)
    (kept_records g.S.Store c.defect_of.new.records) (kept_records g.S.Store c.prepare.new.records)
    c.in_ok-prepare-in-None.field-0 c.in_ok-prepare-in-None.ensures.mismatches
    (λ before. of_none c.in_ok-defect.field-0 c.in-None.is (c.in_ok-defect.ensures.sound before))
    c.in_ok-defect.ensures.same (c.in_ok-prepare-in-None.ensures.prepared honest) honest).1

pub returns-in-Some-clause-unsound : goal.returns-in-Some-clause-unsound
returns-in-Some-clause-unsound g c honest =
    of_some (OpenAsNone (kept_records g.S.Store c.args.records.now).rows) c.in_ok-defect.field-0 c.in-Some.defect
    c.in-Some.is (c.in_ok-defect.ensures.unsound honest)

pub returns-in-Some-clause-started : goal.returns-in-Some-clause-started
returns-in-Some-clause-started g c honest =
    of_some (λ defect. ¬ HasNoClock (kept_records g.S.Store c.args.records.now).rows) c.in_ok-defect.field-0
    c.in-Some.defect c.in-Some.is (c.in_ok-defect.ensures.started honest)

pub returns-in_err-prepare-in-None-clause-bad_start : goal.returns-in_err-prepare-in-None-clause-bad_start
returns-in_err-prepare-in-None-clause-bad_start g c honest is =
    let left = err_from_is_err_and c.from_residual-in_err-prepare-in-None.result
    c.from_residual-in_err-prepare-in-None.ensures.1 in
    let faulted : Faulted (Broker c.in_err-prepare-in-None.field-0.0) ≡ Faulted (Broker BadStart) =
    sym left.2 ∙ ap (error_of (Faulted Read)) (sym left.1 ∙ is) in
    let fault : c.in_err-prepare-in-None.field-0.0 ≡ BadStart = ap fault_in faulted in
    let before : IsHonestStore (kept_records g.S.Store c.defect_of.new.records) =
    honest_checked (kept_records g.S.Store c.defect_of.new.records) (kept_records g.S.Store c.prepare.new.records)
    c.in_err-prepare-in-None.ensures.mismatches honest in
    subst (λ (rows : Rows). CannotStart c.args.words.now rows) (c.in_ok-defect.ensures.same before)
    (c.in_err-prepare-in-None.ensures.bad_start honest (ap Err fault))
