use Rattle.std.proofs.Common.{◌≡◌, ◌<◌, ◌≤◌, None, not, refl, sym, ap, ◌∙◌, subst}
use Rattle.broker_model.specs.Words.{Text, Lease, honest_before, table_of, MatchOption-at_none, err_from_is_err_and}
use Rattle.soundness.proofs.AnswerLemmas.{from_true}
use Rattle.soundness.proofs.TextLemmas.{id_of}
use Rattle.soundness.proofs.ReadLemmas.{lease_unread, fails, absent, above}
use Rattle.records.specs.declared.kind.Kind.TheVariants as kind
use Rattle.soundness.proofs.Readings.{read_both, read_fails}
use Rattle.soundness.proofs.credentials.lease.Goals as goal

pub returns-clause-sound : goal.returns-clause-sound
returns-clause-sound g c honest =
    let seen = g.T.RecordsTx.seen in
    let rows = (seen c.args.tx.now).rows in
    let mid = honest_before (seen c.has_row.new.tx)
    (seen c.is_of_lease.new.tx) _ c.in_ok-is_of_lease.ensures.call.goes_on honest in
    let read = c.in-Ok.ensures.exact in
    let same = c.in_ok-has_row.ensures.call.same mid in
    let credential = ap (λ (l : Lease). l.credential) c.lease.view_is in
    let row = from_true c.in_ok-is_of_lease.field-0 c.if-not-branch-2.false
    (c.in_ok-is_of_lease.ensures.found honest) in (
      (c.args.row.now.owner, c.in-Ok.lease),
      record {
        in_range = read.0;
        name = id_of c.args.key.now c.lease_identifier.result (c.is_none.ensures ∙ ap not c.if-is_none.false)
            c.lease_identifier.ensures.sound;
        ttl = subst (λ (l : Lease). l.ttl ≤ l.max_ttl) c.lease.view_is c.if-lease.false;
        owner = subst (λ (t : Text). table_of rows kind.Token t ≡ None → ⊥) c.as_str.ensures
            (from_true c.in_ok-has_row.field-0 c.if-not-branch.false (c.in_ok-has_row.ensures.found mid));
        credential = (λ i. table_of (sym same i) kind.Credential (sym credential i)) ∙ row;
      },
      read.1,
    )

pub returns-in_default-clause-broken : goal.returns-in_default-clause-broken
returns-in_default-clause-broken g c honest = lease_unread c.args.row.now _ c.in_default.ensures _ refl

pub returns-then-is_none-clause-broken : goal.returns-then-is_none-clause-broken
returns-then-is_none-clause-broken g c honest =
    MatchOption-at_none _ _
    (absent c.lease_identifier.result c.lease_identifier.result refl (c.is_none.ensures ∙ ap not c.if-is_none.true))
    c.lease_identifier.ensures.whole

pub returns-then-lease-clause-broken : goal.returns-then-lease-clause-broken
returns-then-lease-clause-broken g c honest =
    let read = c.in-Ok.ensures.exact in (
      (c.args.row.now.owner, c.in-Ok.lease),
      (
        read.0,
        λ within. above c.in-Ok.lease.ttl c.in-Ok.lease.max_ttl
            (subst (λ (l : Lease). l.max_ttl < l.ttl) c.lease.view_is c.if-lease.true) within,
      ),
      read.1,
    )

pub returns-then-not-branch-clause-broken : goal.returns-then-not-branch-clause-broken
returns-then-not-branch-clause-broken g c honest =
    let rows = table_of (g.T.RecordsTx.seen c.args.tx.now).rows in
    let read = c.in-Ok.ensures.exact in (
      (c.args.row.now.owner, c.in-Ok.lease),
      (read.0, ap (rows kind.Token) (sym c.as_str.ensures) ∙ c.in_ok-has_row.ensures.whole honest c.if-not-branch.true),
      read.1,
    )

pub returns-then-not-branch-2-clause-broken : goal.returns-then-not-branch-2-clause-broken
returns-then-not-branch-2-clause-broken g c honest =
    let seen = g.T.RecordsTx.seen in
    let mid = honest_before (seen c.has_row.new.tx)
    (seen c.is_of_lease.new.tx) _ c.in_ok-is_of_lease.ensures.call.goes_on honest in
    let read = c.in-Ok.ensures.exact in
    let same = c.in_ok-has_row.ensures.call.same mid in
    let credential = ap (λ (l : Lease). l.credential) c.lease.view_is in (
      (c.args.row.now.owner, c.in-Ok.lease),
      (
        read.0,
        λ row. fails c.in_ok-is_of_lease.field-0 c.if-not-branch-2.true (c.in_ok-is_of_lease.ensures.whole honest)
            ((λ i. table_of (same i) kind.Credential (credential i)) ∙ row),
      ),
      read.1,
    )

pub returns-in_err-is_of_lease-clause-call : goal.returns-in_err-is_of_lease-clause-call
returns-in_err-is_of_lease-clause-call g c =
    let p = err_from_is_err_and c.from_residual-in_err-is_of_lease.result
    c.from_residual-in_err-is_of_lease.ensures.1 in
    rw (p.1, p.2) (read_fails c.in_ok-has_row.ensures.call c.in_err-is_of_lease.ensures.call)

pub returns-then-not-branch-2-clause-call : goal.returns-then-not-branch-2-clause-call
returns-then-not-branch-2-clause-call g c =
    read_both c.in_ok-has_row.ensures.call c.in_ok-is_of_lease.ensures.call

pub returns-clause-call : goal.returns-clause-call
returns-clause-call g c =
    read_both c.in_ok-has_row.ensures.call c.in_ok-is_of_lease.ensures.call
