use Rattle.records.specs.Words.{sym, refl, ◌∙◌}
use Rattle.sqlite.specs.Held.{state}
use Rattle.sqlite_rules.proofs.ViewLemmas.{on_ok_both}
use Rattle.records_sql.proofs.AdoptLemmas.{kept_as_found, made_new}
use Rattle.records_sql.proofs.opening.find_table.Goals as goal

pub returns-clause-found : goal.returns-clause-found
returns-clause-found g c clean settled =
    let old = state g.S.Store c.args.conn.now in
    let new = state g.S.Store c.check_rows.new.conn in
    let has = sym c.schema-2.ensures.value ∙ c.if-not-is_ours.ensures refl in
    on_ok_both c.check_rows.result (λ same store. kept_as_found old new settled same store)
    (c.check_rows.ensures.same clean has) (c.check_rows.ensures.sound clean has c.schema-2.ensures.live)

pub returns-then-is_blank-clause-found : goal.returns-then-is_blank-clause-found
returns-then-is_blank-clause-found g c clean settled =
    let old = state g.S.Store c.args.conn.now in
    let new = state g.S.Store c.make_table.new.conn in
    let has = sym c.schema.ensures.value ∙ c.if-is_blank.ensures refl in
    let made = c.in_ok-make_table.ensures.made clean has in
    made_new old new settled has made.0 made.1
