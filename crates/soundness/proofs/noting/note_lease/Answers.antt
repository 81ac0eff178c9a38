use Rattle.std.proofs.Common.{◌≡◌, ◌∙◌, sym, subst}
use Rattle.broker_model.specs.Words.{lease_identifier, IsIdentifier, IsLeaseId, table}
use Rattle.records.specs.declared.kind.Kind.TheVariants as kind
use Rattle.soundness.specs.Words.{StopsNoting, noted}
use Rattle.soundness.proofs.NotingLemmas.{adds_as, lease_identified, ok_as, shows_as, stops_as}
use Rattle.soundness.proofs.noting.note_lease.Goals as goal

pub returns-in-Some-clause-broken : goal.returns-in-Some-clause-broken
returns-in-Some-clause-broken g c honest =
    let rows = table (g.T.RecordsTx.seen c.args.tx.now) in
    let places = noted c.args.places.now in
    let i = c.in-Some.identifier.now in
    let is = c.in-Some.ensures.sound.1 in
    shows_as c.had.result (StopsNoting rows places (IsIdentifier i) (λ j. i ≡ j))
    (StopsNoting rows places (IsLeaseId c.args.key.now) (λ j. lease_identifier c.args.key.now ≡ j))
    (stops_as rows places (IsIdentifier i) (IsLeaseId c.args.key.now) (λ j. i ≡ j)
    (λ j. lease_identifier c.args.key.now ≡ j)
    (λ s. subst IsIdentifier (sym is) (lease_identified c.args.key.now s)) (λ j same. sym is ∙ same))
    (c.had.ensures.broken honest)

pub returns-in-Some-clause-adds : goal.returns-in-Some-clause-adds
returns-in-Some-clause-adds g c =
    ok_as c.had.result
    (adds_as (λ j. c.in-Some.identifier.now ≡ j) (λ j. lease_identifier c.args.key.now ≡ j)
    (kind.Lease, c.args.key.now) (noted c.args.places.now) (noted c.had.new.places)
    (λ j same. sym c.in-Some.ensures.sound.1 ∙ same))
    c.had.ensures.adds
