use Rattle.records.specs.Words.{sym, subst, OnOk, on_ok_weaker, honest_before, goes_further, fault_then, not_damaged}
use Rattle.records.specs.Words.{each_fault, AreDue, of_leases, KeepsOthers, table, table_of, Rows}
use Rattle.leases.specs.Words.{EndsLeases, AreReadable, has_come, without_expired, expired_leaves, all_readable}
use Rattle.leases.proofs.Endings.{left_told}
use Rattle.leases.proofs.ListedLeases.{still_due}
use Rattle.leases.proofs.sweeping.sweep_leases.Goals as goal

pub returns-clause-rows : goal.returns-clause-rows
returns-clause-rows g c honest =
    let seen = g.T.RecordsTx.seen in
    let now = c.args.clock in
    let mid = honest_before (seen c.due_until.new.self)
    (seen c.end_due.new.tx) _ c.end_due.ensures.call.goes_on honest in
    let same = c.in_ok-due.ensures.call.same mid in
    let due = subst (AreDue (seen c.args.tx.now).rows now) (sym c.deref.ensures.value)
    (c.in_ok-due.ensures.entries mid) in
    let still = still_due (seen c.args.tx.now).rows (seen c.due_until.new.self).rows now c.deref.result.now same due in
    subst (λ (rows : Rows). OnOk c.end_due.result
    (EndsLeases (has_come now) (table_of rows) (table (seen c.end_due.new.tx)))) same
    (c.end_due.ensures.rows honest now still)

pub returns-clause-told : goal.returns-clause-told
returns-clause-told g c honest forms b represents =
    let seen = g.T.RecordsTx.seen in
    let now = c.args.clock in
    on_ok_weaker c.end_due.result (λ ended.
    left_told (has_come now) (table (seen c.args.tx.now)) (table (seen c.end_due.new.tx)) b
    (without_expired b now) represents ended (expired_leaves b now))
    (returns-clause-rows g c honest)

pub returns-clause-call : goal.returns-clause-call
returns-clause-call g c =
    let seen = g.T.RecordsTx.seen in
    let now = c.args.clock in
    record {
      others = λ honest.
          let mid = honest_before (seen c.due_until.new.self)
          (seen c.end_due.new.tx) _ c.end_due.ensures.call.goes_on honest in
          subst (λ (rows : Rows). OnOk c.end_due.result
          (KeepsOthers of_leases (table_of rows) (table (seen c.end_due.new.tx))))
          (c.in_ok-due.ensures.call.same mid) (c.end_due.ensures.call.others honest);
      faults = each_fault (λ f. fault_then (λ damage honest readable.
          let mid = honest_before (seen c.due_until.new.self)
          (seen c.end_due.new.tx) _ c.end_due.ensures.call.goes_on honest in
          let same = c.in_ok-due.ensures.call.same mid in
          let due = subst (AreDue (seen c.args.tx.now).rows now) (sym c.deref.ensures.value)
          (c.in_ok-due.ensures.entries mid) in
          let still = still_due (seen c.args.tx.now).rows
          (seen c.due_until.new.self).rows now c.deref.result.now same due in
          damage honest now still
          (subst (λ (rows : Rows). AreReadable (has_come now) (table_of rows)) (sym same) readable)) f)
          c.end_due.result c.end_due.ensures.call.faults;
      goes_on = goes_further _ _ _ _ c.in_ok-due.ensures.call.goes_on c.end_due.ensures.call.goes_on;
    }

pub returns-clause-wants : goal.returns-clause-wants
unfolding returns-clause-call
returns-clause-wants g c honest forms b represents =
    each_fault (λ f. not_damaged (λ damage. damage honest
    (all_readable (has_come c.args.clock) (table (g.T.RecordsTx.seen c.args.tx.now)) b represents)) f)
    c.end_due.result (returns-clause-call g c).faults
