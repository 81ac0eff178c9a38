use Rattle.records.specs.Words.{sym, subst, honest_before, IsHonest, Rows, table_of, AreUpgraded}
use Rattle.broker_types.specs.OptionLaws.{of_none, of_some}
use Rattle.soundness.specs.Words.{Breaks, AreOfABroker}
use Rattle.database_check.specs.Naming.{IsNumbered, TellsOf}
use Rattle.database_check.proofs.FindingLemmas.{opens_as_none}
use Rattle.database_check.proofs.checking.find_defect.Goals as goal

pub returns-in-None-clause-sound : goal.returns-in-None-clause-sound
returns-in-None-clause-sound g c honest =
    let seen = g.T.RecordsTx.seen in
    let upgraded : IsHonest (seen c.upgrade_keys.new.tx) =
    honest_before (seen c.upgrade_keys.new.tx) (seen c.check.new.tx) _ c.in_ok-check.ensures.call.goes_on honest in
    subst (λ (rows : Rows). AreUpgraded (table_of (seen c.args.tx.now).rows) (table_of rows) × AreOfABroker rows)
    (sym (c.in_ok-check.ensures.call.same honest)) (
      c.in_ok-upgrade_keys.ensures.rows upgraded,
      of_none c.in_ok-check.field-0 c.in-None.is (c.in_ok-check.ensures.sound honest),
    )

pub returns-in_ok-at-in-Some-clause-unsound : goal.returns-in_ok-at-in-Some-clause-unsound
returns-in_ok-at-in-Some-clause-unsound g c honest =
    let seen = g.T.RecordsTx.seen in
    let rows = (seen c.upgrade_keys.new.tx).rows in
    let checked : IsHonest (seen c.check.new.tx) =
    honest_before (seen c.check.new.tx) (seen c.at.new.tx) _ c.in_ok-at-in-Some.ensures.call.goes_on honest in
    let upgraded : IsHonest (seen c.upgrade_keys.new.tx) =
    honest_before (seen c.upgrade_keys.new.tx) (seen c.check.new.tx) _ c.in_ok-check.ensures.call.goes_on checked in
    let breaks = of_some (Breaks (table_of rows)) c.in_ok-check.field-0 c.in-Some.trouble c.in-Some.is
    (c.in_ok-check.ensures.broken checked) in
    record {
      none = opens_as_none (seen c.args.tx.now).rows rows (c.in_ok-upgrade_keys.ensures.rows upgraded)
          (c.broken_rows_are_of_no_broker.ensures rows c.in-Some.trouble breaks);
      rows = rows;
      upgraded = c.in_ok-upgrade_keys.ensures.rows upgraded;
      trouble = c.in-Some.trouble;
      breaks = breaks;
      tells = subst (λ (r : Rows). TellsOf r c.in-Some.trouble c.in_ok-at-in-Some.field-0)
          (c.in_ok-check.ensures.call.same checked)
          (c.in_ok-at-in-Some.ensures.tells honest
          (subst (λ (r : Rows). IsNumbered r c.in-Some.trouble) (sym (c.in_ok-check.ensures.call.same checked))
          (of_some (IsNumbered rows) c.in_ok-check.field-0 c.in-Some.trouble c.in-Some.is
          (c.in_ok-check.ensures.number checked))));
    }
