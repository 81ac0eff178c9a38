use Rattle.std.proofs.Common.{◌≡◌, ◌∙◌, Some, Option, Ok, refl, ap, is_ok, sym, subst}
use Rattle.records.specs.Words.{false≢true, same_Some, err_from_is_err_and, EndsOk, ◌>>=◌, some_or, Lease}
use Rattle.records.specs.Words.{honest_before, goes_further, fails_alike, read_fault, of_leases, Tells, IsLeaseInRange}
use Rattle.records.specs.Words.{lease_row, Table, table, table_of, with_row, table_of-insert, IsHonest, GoesOn, none_of}
use Rattle.records.specs.Words.{ok_inj}
use Rattle.broker_types.specs.declared.refusal.Refusal.TheVariants as refusal
use Rattle.broker_types.specs.declared.refusal.Reason.TheVariants as reason
use Rattle.records.specs.declared.kind.Kind.TheVariants as kind
use Rattle.leases.specs.Words.{Row, Held, IsLeaseAt, IsReadableLease, KeepsOtherLeases, Renewed, renewed, renewed_end}
use Rattle.leases.specs.Words.{with_renewed}
use Rattle.leases.specs.LeaseRows as rows
use Rattle.leases.proofs.LeaseFound.{find_none, find_some, at_is, at_read}
use Rattle.leases.proofs.LeaseMade.{changed_told, renewed_keeps}
use Rattle.leases.proofs.renewing.renew.Goals as goal

pub returns-in_default-clause-told : goal.returns-in_default-clause-told
returns-in_default-clause-told g c honest forms b represents clock =
    let old = table (g.T.RecordsTx.seen c.args.tx.now) in
    let none = sym (c.in_ok-kept.ensures.found honest) ∙ none_of _ c.in_default.not-Some in
    rw (find_none old b represents c.args.lease_id.now none) (refl, c.in_ok-kept.ensures.call.same honest)

pub returns-in_err-lease-clause-told : goal.returns-in_err-lease-clause-told
returns-in_err-lease-clause-told g c honest forms b represents clock =
    let old = table (g.T.RecordsTx.seen c.args.tx.now) in
    let h = find_some old b represents c.args.lease_id.now c.in-Some.kept
    (sym (c.in_ok-kept.ensures.found honest) ∙ c.in-Some.is) in
    absurd (false≢true (ap is_ok (c.in_err-lease.ensures.again h.0.1 h.1
    (h.2 ∙ ap (λ t. lease_row t h.0.1) (sym (ap (λ (r : Row). r.owner) h.2))))))

pub returns-in_err-lease-clause-call : goal.returns-in_err-lease-clause-call
returns-in_err-lease-clause-call g c =
    let seen = g.T.RecordsTx.seen in
    let old = table (seen c.args.tx.now) in
    let id = c.args.lease_id.now in
    let p = err_from_is_err_and c.from_residual-in_err-lease.result c.from_residual-in_err-lease.ensures.1 in
    let unread : IsHonest (seen c.get.new.self) → IsReadableLease old id → ⊥ = λ honest readable.
    let h = at_is old id readable.0 c.in-Some.kept readable.1
    (sym (c.in_ok-kept.ensures.found honest) ∙ c.in-Some.is) in
    absurd (false≢true (ap is_ok (c.in_err-lease.ensures.again h.0.1 h.2
    (h.3 ∙ ap (λ t. lease_row t h.0.1) (sym (ap (λ (r : Row). r.owner) h.3)))))) in
    rw (p.1, p.2, c.in_err-lease.ensures.damaged)
    (record { others = λ _. tt; faults = unread; goes_on = c.in_ok-kept.ensures.call.goes_on })

pub returns-clause-rows : goal.returns-clause-rows
returns-clause-rows g c honest o at =
    let seen = g.T.RecordsTx.seen in
    let first : IsHonest (seen c.get.new.self) = honest_before _ _ _ c.in_ok-put.ensures.call.goes_on honest in
    let old = table (seen c.args.tx.now) in
    let new = table (seen c.put.new.self) in
    let id = c.args.lease_id.now in
    let now = c.args.now in
    let increment = c.args.increment in
    let ends = c.renewed_end-ends.result in
    let h = at_is old id o c.in-Some.kept at (sym (c.in_ok-kept.ensures.found first) ∙ c.in-Some.is) in
    let owner : c.in-Some.kept.owner ≡ h.0.0 = ap (λ (r : Row). r.owner) h.3 in
    let read : c.in_ok-lease.lease ≡ h.0.1 =
    ok_inj (c.in_ok-lease.ensures.again h.0.1 h.2 (h.3 ∙ ap (λ t. lease_row t h.0.1) (sym owner))) in
    let whole = c.lease.view_is ∙ read in
    let end : ends ≡ renewed_end now increment h.0.1 =
    c.renewed_end-ends.ensures.value ∙ (λ i. renewed_end (c.seconds-now.ensures.value i) increment (read i)) in
    let row : c.in_ok-row.row ≡ lease_row h.0.0 (renewed now increment h.0.1) =
    c.in_ok-row.ensures ∙ (λ i. lease_row ((c.as_str.ensures ∙ owner) i) (record {
      issued = (whole i).issued;
      ttl = (whole i).ttl;
      max_ttl = (whole i).max_ttl;
      ends = end i;
      renewed = Some (c.seconds-now.ensures.value i);
      credential = (whole i).credential;
    })) in
    subst (λ (o : Option Held). EndsOk (λ ends (next : rows.RenewedRows). (ends ≡ next.ends) × (new ≡ next.rows)) ends
    (rows.renew old o id now increment)) (sym h.1) (
      end,
      ap table_of (c.in_ok-put.ensures.rows honest)
          ∙ table_of-insert (seen c.get.new.self).rows kind.Lease id c.in_ok-row.row
          ∙ (λ i. with_row (table_of (c.in_ok-kept.ensures.call.same first i)) kind.Lease id (row i)),
    )

pub returns-clause-readable : goal.returns-clause-readable
returns-clause-readable g c honest =
    let seen = g.T.RecordsTx.seen in
    let first : IsHonest (seen c.get.new.self) = honest_before _ _ _ c.in_ok-put.ensures.call.goes_on honest in
    let read = c.in_ok-lease.ensures.exact in (
      Some (c.in-Some.kept.owner, c.in_ok-lease.lease),
      at_read (table (seen c.args.tx.now)) c.args.lease_id.now c.in-Some.kept c.in_ok-lease.lease
          (sym (c.in_ok-kept.ensures.found first) ∙ c.in-Some.is) read.0 read.1,
    )

pub returns-clause-call : goal.returns-clause-call
unfolding returns-clause-readable
returns-clause-call g c = record {
  others = λ honest.
      let old = table (g.T.RecordsTx.seen c.args.tx.now) in
      let id = c.args.lease_id.now in
      let read = returns-clause-readable g c honest in
      let both = returns-clause-rows g c honest read.0 read.1 in
      subst (λ (t : Table). KeepsOtherLeases id old t) (sym both.1)
      (renewed_keeps old id (lease_row c.in-Some.kept.owner (renewed c.args.now c.args.increment c.in_ok-lease.lease)));
  faults = tt;
  goes_on = goes_further _ _ _ _ c.in_ok-kept.ensures.call.goes_on c.in_ok-put.ensures.call.goes_on;
}

pub returns-clause-told : goal.returns-clause-told
returns-clause-told g c honest forms b represents clock =
    let seen = g.T.RecordsTx.seen in
    let first : IsHonest (seen c.get.new.self) = honest_before _ _ _ c.in_ok-put.ensures.call.goes_on honest in
    let old = table (seen c.args.tx.now) in
    let new = table (seen c.put.new.self) in
    let id = c.args.lease_id.now in
    let increment = c.args.increment in
    let found = sym (c.in_ok-kept.ensures.found first) ∙ c.in-Some.is in
    let h = find_some old b represents id c.in-Some.kept found in
    let at : IsLeaseAt old id (Some h.0) =
    record {
      in_range = λ k e. subst (λ (k : Held). IsLeaseInRange k.1) (same_Some _ _ e) h.1;
      row = found ∙ ap Some h.2;
    } in
    let both = returns-clause-rows g c honest (Some h.0) at in
    subst (λ (o : Option Lease). EndsOk (λ ends (next : Renewed). (ends ≡ next.ends) × Tells of_leases new next.next)
    c.renewed_end-ends.result
    (some_or (refusal.BadRequest reason.InvalidLease) o
    >>= (λ l. Ok (record { ends = renewed_end b.clock increment l; next = with_renewed b id increment })))) (sym h.3) (
      both.0 ∙ ap (λ n. renewed_end n increment h.0.1) clock,
      subst (λ (t : Table). Tells of_leases t (with_renewed b id increment))
          (sym (both.1 ∙ ap (λ n. with_row old kind.Lease id (lease_row h.0.0 (renewed n increment h.0.1))) clock))
          (changed_told b id (renewed b.clock increment) old h.0.0 h.0.1 represents h.4 (λ m. refl)),
    )

pub returns-in_err-put-clause-call : goal.returns-in_err-put-clause-call
returns-in_err-put-clause-call g c =
    let seen = g.T.RecordsTx.seen in
    let p = err_from_is_err_and c.from_residual-in_err-put.result c.from_residual-in_err-put.ensures.1 in
    rw (p.1, p.2) (record {
      others = λ _. tt;
      faults = read_fault _ _ c.in_err-put.ensures.call.faults;
      goes_on = goes_further _ _ _ _ c.in_ok-kept.ensures.call.goes_on
          (subst (GoesOn (seen c.get.new.self) (seen c.put.new.self))
          (sym (fails_alike (Unit {0}) c.in_err-put.field-0.0)) c.in_err-put.ensures.call.goes_on);
    })
