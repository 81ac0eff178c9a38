use Rattle.std.proofs.Common.{◌≡◌, ◌<◌, [], length, refl, sym, subst, rules, arith, nat_lt}
use Rattle.std.proofs.lemmas.Bool.Decides.{nat_tests}
use Rattle.std.proofs.lemmas.List.{nil_from_length}
use Rattle.records.specs.Words.{honest_before, Rows, table_of, AreUpgraded}
use Rattle.soundness.specs.Words.{AreOfABroker}
use Rattle.database_check.proofs.AllLemmas.{found_all}
use Rattle.database_check.proofs.all.find_all.Goals as goal

pub returns-then-is_empty-clause-sound : goal.returns-then-is_empty-clause-sound
returns-then-is_empty-clause-sound g c honest =
    let seen = g.T.RecordsTx.seen in
    let checked = honest_before (seen c.check_all.new.tx) (seen c.of.new.tx) _ c.in_ok-of.ensures.call.goes_on honest in
    let upgraded = honest_before (seen c.upgrade_keys.new.tx)
    (seen c.check_all.new.tx) _ c.in_ok-troubles.ensures.call.goes_on checked in
    let none : c.in_ok-troubles.troubles.items ≡ [] =
    nil_from_length c.in_ok-troubles.troubles.items (grind (arith, nat_tests, c.if-is_empty.ensures)) in
    let same = c.in_ok-troubles.ensures.call.same checked in (
      (seen c.check_all.new.tx).rows,
      subst (λ (rows : Rows). AreUpgraded (table_of (seen c.args.tx.now).rows) (table_of rows)) (sym same)
          (c.in_ok-upgrade_keys.ensures.rows upgraded),
      subst AreOfABroker (sym same) (c.in_ok-troubles.ensures.sound checked (omega arith) none),
      c.in_ok-of.ensures.counted honest,
    )

pub returns-clause-unsound : goal.returns-clause-unsound
returns-clause-unsound g c honest =
    let seen = g.T.RecordsTx.seen in
    let checked = honest_before (seen c.check_all.new.tx)
    (seen c.tell_each.new.tx) _ c.in_ok-list.ensures.call.goes_on honest in
    let upgraded = honest_before (seen c.upgrade_keys.new.tx)
    (seen c.check_all.new.tx) _ c.in_ok-troubles.ensures.call.goes_on checked in
    let some : 0 < length c.in_ok-troubles.troubles.items = grind (arith, nat_tests, c.if-is_empty.ensures) in
    let many : c.len-are_all.result ≡ length c.in_ok-troubles.troubles.items = search rules in
    let rows = (seen c.upgrade_keys.new.tx).rows in
    found_all (seen c.args.tx.now).rows rows (seen c.check_all.new.tx).rows
    (c.in_ok-troubles.ensures.call.same checked) (c.in_ok-upgrade_keys.ensures.rows upgraded)
    c.broken_rows_are_of_no_broker.ensures c.in_ok-troubles.troubles.items some
    (c.in_ok-troubles.ensures.broken checked) c.deref.result.now c.deref.ensures.value c.in_ok-list.list.items
    (c.in_ok-list.ensures.told honest)
    (record { list = c.in_ok-list.list; are_all = nat_lt c.len-are_all.result 100000 })
    refl c.len-are_all.result many refl
    (c.in_ok-troubles.ensures.whole checked)
