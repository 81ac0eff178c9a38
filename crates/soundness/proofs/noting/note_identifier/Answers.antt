use Rattle.std.specs.Prelude.{OnOk}
use Rattle.broker_model.specs.Words.{subst, sym, Kind}
use Rattle.records.specs.declared.kind.Kind.TheVariants as kind
use Rattle.soundness.specs.Words.{HasIdentifier, AddsOnly, noted}
use Rattle.soundness.proofs.NotingLemmas.{adds_of_kind}
use Rattle.soundness.proofs.noting.note_identifier.Goals as goal

pub returns-in-Token-clause-adds : goal.returns-in-Token-clause-adds
returns-in-Token-clause-adds g c =
    adds_of_kind c.note_token.result c.args.kind kind.Token c.args.key.now (noted c.args.places.now)
    (noted c.note_token.new.places) c.in-Token.is c.note_token.ensures.adds

pub returns-in-Waiting-clause-adds : goal.returns-in-Waiting-clause-adds
returns-in-Waiting-clause-adds g c =
    adds_of_kind c.note_token-in-Waiting.result c.args.kind kind.Waiting c.args.key.now (noted c.args.places.now)
    (noted c.note_token-in-Waiting.new.places) c.in-Waiting.is c.note_token-in-Waiting.ensures.adds

pub returns-in-Lease-clause-adds : goal.returns-in-Lease-clause-adds
returns-in-Lease-clause-adds g c =
    subst
    (λ (k : Kind). OnOk c.note_lease.result
    (AddsOnly (HasIdentifier k c.args.key.now) (k, c.args.key.now) (noted c.args.places.now)
    (noted c.note_lease.new.places)))
    (sym c.in-Lease.is) c.note_lease.ensures.adds

pub returns-in-Accessor-clause-adds : goal.returns-in-Accessor-clause-adds
returns-in-Accessor-clause-adds g c =
    adds_of_kind c.had.result c.args.kind kind.Accessor c.args.key.now (noted c.args.places.now)
    (noted c.had.new.places) c.in-Accessor.is c.had.ensures.adds

pub returns-in-Credential-clause-adds : goal.returns-in-Credential-clause-adds
returns-in-Credential-clause-adds g c =
    adds_of_kind c.had-in-Credential.result c.args.kind kind.Credential c.args.key.now (noted c.args.places.now)
    (noted c.had-in-Credential.new.places) c.in-Credential.is c.had-in-Credential.ensures.adds

pub returns-in-Token-clause-had : goal.returns-in-Token-clause-had
returns-in-Token-clause-had g c honest = rw c.in-Token.is (rw c.in-Token.is at (c.note_token.ensures.had honest))

pub returns-in-Waiting-clause-had : goal.returns-in-Waiting-clause-had
returns-in-Waiting-clause-had g c honest =
    rw c.in-Waiting.is (rw c.in-Waiting.is at (c.note_token-in-Waiting.ensures.had honest))

pub returns-in-Accessor-clause-had : goal.returns-in-Accessor-clause-had
returns-in-Accessor-clause-had g c honest = rw c.in-Accessor.is (rw c.in-Accessor.is at (c.had.ensures.had honest))

pub returns-in-Credential-clause-had : goal.returns-in-Credential-clause-had
returns-in-Credential-clause-had g c honest =
    rw c.in-Credential.is (rw c.in-Credential.is at (c.had-in-Credential.ensures.had honest))

pub returns-in-Lease-clause-had : goal.returns-in-Lease-clause-had
returns-in-Lease-clause-had g c honest = rw c.in-Lease.is (c.note_lease.ensures.had honest)

pub returns-in-Token-clause-broken : goal.returns-in-Token-clause-broken
returns-in-Token-clause-broken g c honest owner = rw c.in-Token.is (c.note_token.ensures.broken honest)

pub returns-in-Waiting-clause-broken : goal.returns-in-Waiting-clause-broken
returns-in-Waiting-clause-broken g c honest owner = rw c.in-Waiting.is (c.note_token-in-Waiting.ensures.broken honest)

pub returns-in-Accessor-clause-broken : goal.returns-in-Accessor-clause-broken
returns-in-Accessor-clause-broken g c honest owner = rw c.in-Accessor.is (c.had.ensures.broken honest)

pub returns-in-Credential-clause-broken : goal.returns-in-Credential-clause-broken
returns-in-Credential-clause-broken g c honest owner = rw c.in-Credential.is (c.had-in-Credential.ensures.broken honest)

pub returns-in-Lease-clause-broken : goal.returns-in-Lease-clause-broken
returns-in-Lease-clause-broken g c honest owner = rw c.in-Lease.is (c.note_lease.ensures.broken honest)
