use Rattle.broker_model.specs.Words.{refl, ◌∙◌, of_none, of_some, honest_before, table_of}
use Rattle.soundness.specs.Words.{Rule, Notes, BreaksAt, HasIdentifier, HasOrigin, IsKeyOf, StopsNoting, noted}
use Rattle.soundness.proofs.NotingLemmas.{adds_none, identifier_breaks, origin_breaks, row_spared}
use Rattle.soundness.proofs.WalkLemmas.{row_passed}
use Rattle.soundness.proofs.visiting.visit.Goals as goal

pub returns-clause-passed : goal.returns-clause-passed
returns-clause-passed g c honest ends =
    let seen = g.T.RecordsTx.seen in
    let first = (seen c.args.tx.now).rows in
    let two = honest_before (seen c.note_identifier.new.tx)
    (seen c.note_origin.new.tx) _ c.in_ok-origin.ensures.call.goes_on honest in
    let one = honest_before (seen c.test.new.tx)
    (seen c.note_identifier.new.tx) _ c.in_ok-place.ensures.call.goes_on two in
    let after : Notes = record {
      rooted = c.args.notes.now.rooted;
      identifiers = c.note_identifier.new.places;
      origins = c.note_origin.new.places;
    } in
    row_passed first (seen c.test.new.tx).rows (seen c.note_identifier.new.tx).rows (c.in_ok-rule.ensures.call.same one)
    (c.in_ok-place.ensures.call.same two) c.args.notes.now after refl c.entry.inside.kind c.as_str-key.result.now
    c.entry.inside.row c.args.entry.now
    ((λ i. ((c.entry.inside.kind, c.as_str-key.ensures i), c.entry.inside.row)) ∙ c.entry.view_is)
    (of_none c.in_ok-rule.field-0 c.in_default.is (c.in_ok-rule.ensures.sound one))
    (of_none c.in_ok-place.field-0 c.in_default-2.is (c.in_ok-place.ensures.had two))
    (of_none c.in_ok-origin.field-0 c.in_default-3.is (c.in_ok-origin.ensures.had honest))
    c.chain.result (c.chain.ensures.sound (table_of first) ends)

pub returns-in-Some-2-clause-broken : goal.returns-in-Some-2-clause-broken
returns-in-Some-2-clause-broken g c honest are fresh =
    let seen = g.T.RecordsTx.seen in
    let first = (seen c.args.tx.now).rows in
    let now = (seen c.test.new.tx).rows in
    let one = honest_before (seen c.test.new.tx)
    (seen c.note_identifier.new.tx) _ c.in_ok-place.ensures.call.goes_on honest in
    let k = c.entry.inside.kind in
    let q = c.as_str-key.result.now in
    let row = c.entry.inside.row in
    identifier_breaks first now (c.in_ok-rule.ensures.call.same one) k q row c.args.entry.now
    ((λ i. ((k, c.as_str-key.ensures i), row)) ∙ c.entry.view_is) c.args.notes.now fresh are c.in-Some-2.place
    (of_some
    (StopsNoting (table_of now) (noted c.args.notes.now.identifiers) (IsKeyOf k q row.owner) (HasIdentifier k q))
    c.in_ok-place.field-0 c.in-Some-2.place c.in-Some-2.is (c.in_ok-place.ensures.broken honest row.owner))

pub returns-in-Some-3-clause-broken : goal.returns-in-Some-3-clause-broken
returns-in-Some-3-clause-broken g c honest are fresh =
    let seen = g.T.RecordsTx.seen in
    let first = (seen c.args.tx.now).rows in
    let now = (seen c.note_identifier.new.tx).rows in
    let two = honest_before (seen c.note_identifier.new.tx)
    (seen c.note_origin.new.tx) _ c.in_ok-origin.ensures.call.goes_on honest in
    let one = honest_before (seen c.test.new.tx)
    (seen c.note_identifier.new.tx) _ c.in_ok-place.ensures.call.goes_on two in
    let k = c.entry.inside.kind in
    let q = c.as_str-key.result.now in
    let row = c.entry.inside.row in
    origin_breaks first now (c.in_ok-place.ensures.call.same two ∙ c.in_ok-rule.ensures.call.same one) k q row
    c.args.entry.now ((λ i. ((k, c.as_str-key.ensures i), row)) ∙ c.entry.view_is) c.args.notes.now fresh are
    c.in-Some-3.origin
    (λ origins not_noted. of_some (λ (r : Rule). BreaksAt (table_of now) r k q row) c.in_ok-origin.field-0
    c.in-Some-3.origin c.in-Some-3.is (c.in_ok-origin.ensures.broken honest origins not_noted))

pub returns-in-Some-2-clause-spares : goal.returns-in-Some-2-clause-spares
returns-in-Some-2-clause-spares g c honest here =
    let first = (g.T.RecordsTx.seen c.args.tx.now).rows in
    let after : Notes = record {
      rooted = c.args.notes.now.rooted;
      identifiers = c.note_identifier.new.places;
      origins = c.args.notes.now.origins;
    } in
    row_spared (table_of first) c.args.notes.now after refl c.entry.inside.kind c.as_str-key.result.now
    c.entry.inside.row c.args.entry.now
    ((λ i. ((c.entry.inside.kind, c.as_str-key.ensures i), c.entry.inside.row)) ∙ c.entry.view_is) here
    c.in_ok-place.ensures.adds
    (adds_none (HasOrigin c.entry.inside.kind c.entry.inside.row) (c.entry.inside.kind, c.as_str-key.result.now)
    (noted c.args.notes.now.origins))

pub returns-in-Some-3-clause-spares : goal.returns-in-Some-3-clause-spares
returns-in-Some-3-clause-spares g c honest here =
    let first = (g.T.RecordsTx.seen c.args.tx.now).rows in
    let after : Notes = record {
      rooted = c.args.notes.now.rooted;
      identifiers = c.note_identifier.new.places;
      origins = c.note_origin.new.places;
    } in
    row_spared (table_of first) c.args.notes.now after refl c.entry.inside.kind c.as_str-key.result.now
    c.entry.inside.row c.args.entry.now
    ((λ i. ((c.entry.inside.kind, c.as_str-key.ensures i), c.entry.inside.row)) ∙ c.entry.view_is) here
    c.in_ok-place.ensures.adds c.in_ok-origin.ensures.adds

pub returns-clause-spares : goal.returns-clause-spares
returns-clause-spares g c honest here =
    let first = (g.T.RecordsTx.seen c.args.tx.now).rows in
    let after : Notes = record {
      rooted = c.args.notes.now.rooted;
      identifiers = c.note_identifier.new.places;
      origins = c.note_origin.new.places;
    } in
    row_spared (table_of first) c.args.notes.now after refl c.entry.inside.kind c.as_str-key.result.now
    c.entry.inside.row c.args.entry.now
    ((λ i. ((c.entry.inside.kind, c.as_str-key.ensures i), c.entry.inside.row)) ∙ c.entry.view_is) here
    c.in_ok-place.ensures.adds c.in_ok-origin.ensures.adds
