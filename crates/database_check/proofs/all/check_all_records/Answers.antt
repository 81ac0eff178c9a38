use Rattle.std.proofs.Common.{◌≡◌, ◌≤◌, IfOk, sym, subst, rules}
use Rattle.records.specs.Words.{le-zero, honest_before, Rows}
use Rattle.sqlite.specs.Held.{state}
use Rattle.records_sql.specs.Words.{mismatches, seen_of}
use Rattle.database_check.specs.Findings.{IfAllSound, IfInTrouble, OpenAsCounted, OpenInTrouble}
use Rattle.database_check.proofs.all.check_all_records.Goals as goal

pub returns-clause-sound : goal.returns-clause-sound
returns-clause-sound g c honest =
    let last = c.find_all.new.tx.records in
    let same : c.drop-tx.new.self.0 ≡ c.records-2-1.given.0 = search rules in
    let honest_end = subst (λ h. mismatches (state g.S.Store h.conn) ≡ 0) (sym same) honest in
    let honest_last = le-zero
    (subst (λ n. mismatches (state g.S.Store last.now.conn) ≤ n) honest_end c.drop-tx.ensures.stays.mismatches) in
    let first = seen_of (state g.S.Store c.in_ok-tx.tx.records.now.conn) _ _ in
    let honest_first = honest_before first (seen_of (state g.S.Store last.now.conn) _ _) _
    c.find_all.ensures.call.goes_on honest_last in
    subst (λ (rows : Rows). IfOk c.find_all.result (λ finding. IfAllSound finding (OpenAsCounted rows)))
    (c.in_ok-tx.ensures.begun honest_first) (c.find_all.ensures.sound honest_last)

pub returns-clause-unsound : goal.returns-clause-unsound
returns-clause-unsound g c honest =
    let last = c.find_all.new.tx.records in
    let same : c.drop-tx.new.self.0 ≡ c.records-2-1.given.0 = search rules in
    let honest_end = subst (λ h. mismatches (state g.S.Store h.conn) ≡ 0) (sym same) honest in
    let honest_last = le-zero
    (subst (λ n. mismatches (state g.S.Store last.now.conn) ≤ n) honest_end c.drop-tx.ensures.stays.mismatches) in
    let first = seen_of (state g.S.Store c.in_ok-tx.tx.records.now.conn) _ _ in
    let honest_first = honest_before first (seen_of (state g.S.Store last.now.conn) _ _) _
    c.find_all.ensures.call.goes_on honest_last in
    subst (λ (rows : Rows). IfOk c.find_all.result (λ finding. IfInTrouble finding (OpenInTrouble rows)))
    (c.in_ok-tx.ensures.begun honest_first) (c.find_all.ensures.unsound honest_last)
