use Rattle.std.proofs.Common.{◌≡◌, ◌≤◌, ◌⊎◌, subst, rules, arith, IfNone, IfSome}
use Rattle.sqlite.specs.Held.{state}
use Rattle.broker_rows.specs.Words.{HasNoClock}
use Rattle.records.specs.Words.{honest_before, Rows}
use Rattle.records_sql.specs.Words.{mismatches, seen_of}
use Rattle.database_check.specs.Findings.{OpenAsABroker, OpenAsNone}
use Rattle.database_check.proofs.checking.defect_of.Goals as goal

pub returns-clause-sound : goal.returns-clause-sound
returns-clause-sound g c honest =
    let last = c.find_if_started.new.tx.records in
    let less : mismatches (state g.S.Store last.now.conn) ≤ mismatches (state g.S.Store c.ask.new.self.conn) =
    search rules in
    let honest_last : mismatches (state g.S.Store last.now.conn) ≡ 0 = omega (arith, less, honest) in
    let first = seen_of (state g.S.Store c.in_ok-tx.tx.records.now.conn) _ _ in
    let honest_first = honest_before first (seen_of (state g.S.Store last.now.conn) _ _) _
    c.find_if_started.ensures.call.goes_on honest_last in
    subst (λ (rows : Rows). IfNone c.in_ok-defect.defect (HasNoClock rows ⊎ OpenAsABroker rows))
    (c.in_ok-tx.ensures.begun honest_first) (c.in_ok-defect.ensures.sound honest_last)

pub returns-clause-unsound : goal.returns-clause-unsound
returns-clause-unsound g c honest =
    let last = c.find_if_started.new.tx.records in
    let less : mismatches (state g.S.Store last.now.conn) ≤ mismatches (state g.S.Store c.ask.new.self.conn) =
    search rules in
    let honest_last : mismatches (state g.S.Store last.now.conn) ≡ 0 = omega (arith, less, honest) in
    let first = seen_of (state g.S.Store c.in_ok-tx.tx.records.now.conn) _ _ in
    let honest_first = honest_before first (seen_of (state g.S.Store last.now.conn) _ _) _
    c.find_if_started.ensures.call.goes_on honest_last in
    subst (λ (rows : Rows). IfSome c.in_ok-defect.defect (OpenAsNone rows))
    (c.in_ok-tx.ensures.begun honest_first) (c.in_ok-defect.ensures.unsound honest_last)
