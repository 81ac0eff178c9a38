use Rattle.records.specs.Words.{None, subst}
use Rattle.records_sql.specs.Words.{AreNumbered}
use Rattle.sqlite.specs.Held.{state}
use Rattle.records_sql.proofs.AdoptLemmas.{adopted, unchanged}
use Rattle.records_sql.proofs.opening.check_rows.Goals as goal

pub returns-in-Ok-clause-sound : goal.returns-in-Ok-clause-sound
returns-in-Ok-clause-sound g c clean has live =
    let old = state g.S.Store c.args.conn.now in
    let new = state g.S.Store c.numbers.new.conn in
    adopted old new c.in_ok-rows.rows.items has live (c.in_ok-rows.ensures.ok clean)
    (subst (AreNumbered None) c.deref.ensures.value c.in-Ok.ensures.numbered)

pub returns-in-Ok-clause-same : goal.returns-in-Ok-clause-same
returns-in-Ok-clause-same g c clean has =
    let old = state g.S.Store c.args.conn.now in
    let new = state g.S.Store c.numbers.new.conn in
    unchanged old new c.in_ok-rows.rows.items has (c.in_ok-rows.ensures.ok clean)
