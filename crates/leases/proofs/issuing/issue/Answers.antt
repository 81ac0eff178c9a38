use Rattle.std.proofs.Common.{◌≡◌, ap, sym, subst, ◌∙◌}
use Rattle.std.specs.FinMap as map
use Rattle.records.specs.Words.{on_ok_weaker, Lease, honest_before, goes_further, of_leases, Tells, KeepsOthers, Table}
use Rattle.records.specs.Words.{table, table_of, with_row, table_of-insert, IsHonest}
use Rattle.records.specs.declared.kind.Kind.TheVariants as kind
use Rattle.leases.specs.Words.{with_issued, issue}
use Rattle.leases.proofs.LeaseMade.{issued_told, issued_keeps}
use Rattle.leases.proofs.issuing.issue.Goals as goal

pub returns-clause-rows : goal.returns-clause-rows
returns-clause-rows g c honest =
    let seen = g.T.RecordsTx.seen in
    let first : IsHonest (seen c.put.new.self) = honest_before _ _ _ c.put-2.ensures.call.goes_on honest in
    let old = (seen c.args.tx.now).rows in
    let mid = (seen c.put.new.self).rows in
    let id = c.args.lease_id.now in
    let credential : c.lease.inside.credential.now ≡ c.args.lease.now.credential =
    ap (λ (l : Lease). l.credential) c.lease.view_is in
    on_ok_weaker {P = (seen c.put-2.new.self).rows ≡ map.insert mid
    (kind.Credential, c.lease.inside.credential.now) c.in_ok-row-2.row} c.put-2.result (λ put.
    ap table_of put ∙ table_of-insert mid kind.Credential c.lease.inside.credential.now c.in_ok-row-2.row
    ∙ (λ i. with_row ((ap table_of (c.in_ok-put.ensures.rows first) ∙ table_of-insert old kind.Lease id c.in_ok-row.row
    ∙ ap (with_row (table_of old) kind.Lease id) c.in_ok-row.ensures) i) kind.Credential (credential i)
    (c.in_ok-row-2.ensures i)))
    (c.put-2.ensures.rows honest)

pub returns-clause-call : goal.returns-clause-call
returns-clause-call g c = record {
  others = λ honest.
      let old = table (g.T.RecordsTx.seen c.args.tx.now) in
      let new = table (g.T.RecordsTx.seen c.put-2.new.self) in
      on_ok_weaker {P = new ≡ with_issued old c.args.token.now c.args.lease_id.now c.args.lease.now} c.put-2.result
      (λ rows. subst (λ (t : Table). KeepsOthers of_leases old t) (sym rows)
      (issued_keeps old c.args.token.now c.args.lease_id.now c.args.lease.now)) (returns-clause-rows g c honest);
  faults = c.put-2.ensures.call.faults;
  goes_on = goes_further _ _ _ _ c.in_ok-put.ensures.call.goes_on c.put-2.ensures.call.goes_on;
}

pub returns-clause-told : goal.returns-clause-told
returns-clause-told g c honest forms b represents here all_used new_id new_credential =
    let old = table (g.T.RecordsTx.seen c.args.tx.now) in
    let t = c.args.token.now in
    let id = c.args.lease_id.now in
    let l = c.args.lease.now in
    let new = table (g.T.RecordsTx.seen c.put-2.new.self) in
    on_ok_weaker {P = new ≡ with_issued old t id l} c.put-2.result
    (λ rows. subst (λ (u : Table). Tells of_leases u (issue b t id l)) (sym rows)
    (issued_told old b t id l represents here all_used new_id new_credential)) (returns-clause-rows g c honest)
