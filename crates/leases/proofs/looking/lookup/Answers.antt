use Rattle.std.proofs.Common.{◌≡◌, Some, refl, ap, is_ok, sym, subst, ◌∙◌}
use Rattle.records.specs.Words.{false≢true, err_from_is_err_and, EndsOk, some_or, lease_row, table, none_of, ok_inj}
use Rattle.records.specs.Words.{IsHonest}
use Rattle.broker_types.specs.declared.refusal.Refusal.TheVariants as refusal
use Rattle.broker_types.specs.declared.refusal.Reason.TheVariants as reason
use Rattle.leases.specs.Words.{Row, IsReadableLease, times_of}
use Rattle.leases.proofs.LeaseFound.{find_none, find_some, at_is, at_read}
use Rattle.leases.proofs.looking.lookup.Goals as goal

pub returns-in_default-clause-told : goal.returns-in_default-clause-told
returns-in_default-clause-told g c honest forms b represents =
    let old = table (g.T.RecordsTx.seen c.args.tx.now) in
    let none = sym (c.in_ok-kept.ensures.found honest) ∙ none_of _ c.in_default.not-Some in
    rw (find_none old b represents c.args.lease_id.now none) (refl, tt)

pub returns-in_err-lease-clause-told : goal.returns-in_err-lease-clause-told
returns-in_err-lease-clause-told g c honest forms b represents =
    let old = table (g.T.RecordsTx.seen c.args.tx.now) in
    let h = find_some old b represents c.args.lease_id.now c.in-Some.kept
    (sym (c.in_ok-kept.ensures.found honest) ∙ c.in-Some.is) in
    absurd (false≢true (ap is_ok (c.in_err-lease.ensures.again h.0.1 h.1
    (h.2 ∙ ap (λ t. lease_row t h.0.1) (sym (ap (λ (r : Row). r.owner) h.2))))))

pub returns-in_err-lease-clause-call : goal.returns-in_err-lease-clause-call
returns-in_err-lease-clause-call g c =
    let seen = g.T.RecordsTx.seen in
    let old = table (seen c.args.tx.now) in
    let id = c.args.lease_id.now in
    let p = err_from_is_err_and c.from_residual-in_err-lease.result c.from_residual-in_err-lease.ensures.1 in
    let unread : IsHonest (seen c.get.new.self) → IsReadableLease old id → ⊥ = λ honest readable.
    let h = at_is old id readable.0 c.in-Some.kept readable.1
    (sym (c.in_ok-kept.ensures.found honest) ∙ c.in-Some.is) in
    absurd (false≢true (ap is_ok (c.in_err-lease.ensures.again h.0.1 h.2
    (h.3 ∙ ap (λ t. lease_row t h.0.1) (sym (ap (λ (r : Row). r.owner) h.3)))))) in
    rw (p.1, p.2, c.in_err-lease.ensures.damaged)
    (record { same = λ _. tt; faults = unread; goes_on = c.in_ok-kept.ensures.call.goes_on })

pub returns-clause-told : goal.returns-clause-told
returns-clause-told g c honest forms b represents =
    let old = table (g.T.RecordsTx.seen c.args.tx.now) in
    let h = find_some old b represents c.args.lease_id.now c.in-Some.kept
    (sym (c.in_ok-kept.ensures.found honest) ∙ c.in-Some.is) in
    let read : c.in_ok-lease.lease ≡ h.0.1 =
    ok_inj (c.in_ok-lease.ensures.again h.0.1 h.1
    (h.2 ∙ ap (λ t. lease_row t h.0.1) (sym (ap (λ (r : Row). r.owner) h.2)))) in
    subst (λ o. EndsOk (λ times l. times ≡ times_of l) (record {
      issued = c.lease.inside.issued;
      ends = c.lease.inside.ends;
      renewed = c.lease.inside.renewed;
    }) (some_or (refusal.BadRequest reason.InvalidLease) o)) (sym h.3)
    (ap times_of (c.lease.view_is ∙ read))

pub returns-clause-readable : goal.returns-clause-readable
returns-clause-readable g c honest =
    let old = table (g.T.RecordsTx.seen c.args.tx.now) in
    let read = c.in_ok-lease.ensures.exact in (
      Some (c.in-Some.kept.owner, c.in_ok-lease.lease),
      at_read old c.args.lease_id.now c.in-Some.kept c.in_ok-lease.lease
          (sym (c.in_ok-kept.ensures.found honest) ∙ c.in-Some.is) read.0 read.1,
    )
