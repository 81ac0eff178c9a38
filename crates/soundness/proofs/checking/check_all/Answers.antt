use Rattle.std.proofs.Common.{rules}
use Rattle.broker_model.specs.Words.{honest_before}
use Rattle.soundness.specs.Words.{Notes, Walk}
use Rattle.soundness.proofs.CheckLemmas.{all_tell, checked, each_told}
use Rattle.soundness.proofs.checking.check_all.Goals as goal

pub returns-clause-sound : goal.returns-clause-sound
returns-clause-sound g c honest =
    let seen = g.T.RecordsTx.seen in
    let two = honest_before (seen c.rooted.new.tx)
    (seen c.visit_all.new.tx) _ c.in_ok-visit_all.ensures.call.goes_on honest in
    let one = honest_before (seen c.missing.new.tx) (seen c.rooted.new.tx) _ c.in_ok-rooted.ensures.call.goes_on two in
    let notes : Notes = record {
      rooted = c.in_ok-rooted.field-0;
      identifiers = c.new.result;
      origins = c.new-2.result;
    } in
    let walk : Walk = record { notes = notes; troubles = c.in_ok-troubles.troubles; most = c.args.most } in
    checked (seen c.args.tx.now).rows (seen c.missing.new.tx).rows (seen c.rooted.new.tx).rows
    (c.in_ok-troubles.ensures.call.same one) (c.in_ok-rooted.ensures.call.same two) walk c.visit_all.new.walk
    (c.in_ok-visit_all.ensures.walked honest) (c.in_ok-rooted.ensures.ends two) c.sound_rows_are_of_a_broker.ensures
    (c.in_ok-troubles.ensures.whole one)

pub returns-clause-broken : goal.returns-clause-broken
returns-clause-broken g c honest =
    let seen = g.T.RecordsTx.seen in
    let two = honest_before (seen c.rooted.new.tx)
    (seen c.visit_all.new.tx) _ c.in_ok-visit_all.ensures.call.goes_on honest in
    let one = honest_before (seen c.missing.new.tx) (seen c.rooted.new.tx) _ c.in_ok-rooted.ensures.call.goes_on two in
    let notes : Notes = record {
      rooted = c.in_ok-rooted.field-0;
      identifiers = c.new.result;
      origins = c.new-2.result;
    } in
    let walk : Walk = record { notes = notes; troubles = c.in_ok-troubles.troubles; most = c.args.most } in
    all_tell (seen c.args.tx.now).rows (seen c.missing.new.tx).rows (seen c.rooted.new.tx).rows
    (c.in_ok-troubles.ensures.call.same one) (c.in_ok-rooted.ensures.call.same two) walk c.visit_all.new.walk
    (c.in_ok-visit_all.ensures.walked honest) (λ word. search rules) (λ word. search rules)
    (c.in_ok-rooted.ensures.whole two) (c.in_ok-troubles.ensures.broken one)

pub returns-clause-whole : goal.returns-clause-whole
returns-clause-whole g c honest =
    let seen = g.T.RecordsTx.seen in
    let two = honest_before (seen c.rooted.new.tx)
    (seen c.visit_all.new.tx) _ c.in_ok-visit_all.ensures.call.goes_on honest in
    let one = honest_before (seen c.missing.new.tx) (seen c.rooted.new.tx) _ c.in_ok-rooted.ensures.call.goes_on two in
    let notes : Notes = record {
      rooted = c.in_ok-rooted.field-0;
      identifiers = c.new.result;
      origins = c.new-2.result;
    } in
    let walk : Walk = record { notes = notes; troubles = c.in_ok-troubles.troubles; most = c.args.most } in
    each_told (seen c.args.tx.now).rows (seen c.missing.new.tx).rows (seen c.rooted.new.tx).rows
    (c.in_ok-troubles.ensures.call.same one) (c.in_ok-rooted.ensures.call.same two) walk c.visit_all.new.walk
    (c.in_ok-visit_all.ensures.walked honest) (c.in_ok-rooted.ensures.ends two)
