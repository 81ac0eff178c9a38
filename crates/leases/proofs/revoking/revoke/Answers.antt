use Rattle.records.specs.Words.{sym, subst, ◌∙◌, on_ok_weaker, honest_before, goes_further, fault_then, not_damaged}
use Rattle.records.specs.Words.{each_fault, table, table_of, Rows, IsHonest, none_of, same_self}
use Rattle.leases.specs.Words.{EndsLeases, is_named, revoke, RemovesLease, revoke_leaves, all_readable}
use Rattle.leases.proofs.Endings.{one_ended, none_ended, left_told}
use Rattle.leases.proofs.revoking.revoke.Goals as goal

-- ---- an unknown id

pub returns-in_default-clause-rows : goal.returns-in_default-clause-rows
returns-in_default-clause-rows g c honest =
    let seen = g.T.RecordsTx.seen in
    let id = c.args.lease_id.now in
    subst (λ (rows : Rows). EndsLeases (is_named id) (table (seen c.args.tx.now)) (table_of rows))
    (sym (c.in_ok-row.ensures.call.same honest))
    (none_ended id (seen c.args.tx.now).rows (sym (c.in_ok-row.ensures.found honest) ∙ none_of _ c.in_default.not-Some))

pub returns-in_default-clause-told : goal.returns-in_default-clause-told
returns-in_default-clause-told g c honest forms b represents =
    let seen = g.T.RecordsTx.seen in
    let id = c.args.lease_id.now in
    left_told (is_named id) (table (seen c.args.tx.now)) (table (seen c.get.new.self)) b (revoke b id) represents
    (returns-in_default-clause-rows g c honest) (revoke_leaves b id)

pub returns-in_default-clause-call : goal.returns-in_default-clause-call
unfolding returns-in_default-clause-rows
returns-in_default-clause-call g c = record {
  others = λ honest. (returns-in_default-clause-rows g c honest).others;
  faults = tt;
  goes_on = c.in_ok-row.ensures.call.goes_on;
}

-- ---- a lease

pub returns-clause-rows : goal.returns-clause-rows
returns-clause-rows g c honest =
    let seen = g.T.RecordsTx.seen in
    let first : IsHonest (seen c.get.new.self) = honest_before _ _ _ c.remove_lease.ensures.call.goes_on honest in
    let old = (seen c.args.tx.now).rows in
    let new = (seen c.remove_lease.new.tx).rows in
    let id = c.args.lease_id.now in
    on_ok_weaker c.remove_lease.result (λ removed.
    one_ended id c.in-Some.row old new (sym (c.in_ok-row.ensures.found first) ∙ c.in-Some.is)
    (subst (λ (r : Rows). RemovesLease id c.in-Some.row r new) (c.in_ok-row.ensures.call.same first) removed))
    (c.remove_lease.ensures.rows honest)

pub returns-clause-told : goal.returns-clause-told
returns-clause-told g c honest forms b represents =
    let seen = g.T.RecordsTx.seen in
    let id = c.args.lease_id.now in
    on_ok_weaker c.remove_lease.result (λ ended.
    left_told (is_named id) (table (seen c.args.tx.now)) (table (seen c.remove_lease.new.tx)) b
    (revoke b id) represents ended (revoke_leaves b id))
    (returns-clause-rows g c honest)

pub returns-clause-call : goal.returns-clause-call
unfolding returns-clause-rows
returns-clause-call g c =
    let seen = g.T.RecordsTx.seen in
    let id = c.args.lease_id.now in
    record {
      others = λ honest. on_ok_weaker c.remove_lease.result (λ ended. ended.others) (returns-clause-rows g c honest);
      faults = each_fault (λ f. fault_then (λ damage honest readable.
          let first : IsHonest (seen c.get.new.self) = honest_before _ _ _ c.remove_lease.ensures.call.goes_on honest in
          damage (readable id c.in-Some.row (sym (c.in_ok-row.ensures.found first) ∙ c.in-Some.is) (same_self id))) f)
          c.remove_lease.result c.remove_lease.ensures.call.faults;
      goes_on = goes_further _ _ _ _ c.in_ok-row.ensures.call.goes_on c.remove_lease.ensures.call.goes_on;
    }

pub returns-clause-wants : goal.returns-clause-wants
unfolding returns-clause-call
returns-clause-wants g c honest forms b represents =
    let seen = g.T.RecordsTx.seen in
    let ends = is_named c.args.lease_id.now in
    each_fault (λ f. not_damaged (λ damage. damage honest (all_readable ends (table (seen c.args.tx.now)) b represents))
    f)
    c.remove_lease.result (returns-clause-call g c).faults
