use Rattle.records.specs.Words.{sym, ap, refl, subst, IfErr, OnOk, IsMemoryOrStorage, honest_before, each_fault}
use Rattle.records.specs.Words.{fault_then, goes_further, AreDue, of_waiting, Tells, KeepsOthers, Table, table}
use Rattle.records.specs.Words.{table_of}
use Rattle.wrapping.specs.Words.{AreStillDue, Sweeps, IsDamagedDue, RepresentsWaiting, without_ended}
use Rattle.wrapping.proofs.sweeping.sweep_waiting.Goals as goal

pub returns-clause-rows : goal.returns-clause-rows
returns-clause-rows g c honest =
    let seen = g.T.RecordsTx.seen in
    let mid = honest_before (seen c.due_until.new.self) (seen c.drop_due.new.tx) _
    c.drop_due.ensures.call.goes_on honest in
    let same = ap table_of (c.in_ok-due.ensures.call.same mid) in
    let due = subst (AreDue (seen c.args.tx.now).rows c.args.clock) (sym c.deref.ensures.value)
    (c.in_ok-due.ensures.entries mid) in
    subst (λ (t : Table). AreStillDue c.args.clock c.deref.result.now t
    → OnOk c.drop_due.result (Sweeps c.args.clock t (table (seen c.drop_due.new.tx)))) same
    (c.drop_due.ensures.rows honest c.args.clock)
    (record { asked = (seen c.args.tx.now).rows; due = due; same = λ t. refl })

pub returns-clause-told : goal.returns-clause-told
returns-clause-told g c honest b r =
    let seen = g.T.RecordsTx.seen in
    let mid = honest_before (seen c.due_until.new.self) (seen c.drop_due.new.tx) _
    c.drop_due.ensures.call.goes_on honest in
    let same = ap table_of (c.in_ok-due.ensures.call.same mid) in
    let due = subst (AreDue (seen c.args.tx.now).rows c.args.clock) (sym c.deref.ensures.value)
    (c.in_ok-due.ensures.entries mid) in
    subst (λ (t : Table). RepresentsWaiting t b → AreStillDue c.args.clock c.deref.result.now t
    → OnOk c.drop_due.result (Tells of_waiting (table (seen c.drop_due.new.tx)) (without_ended b c.args.clock))) same
    (λ r still. c.drop_due.ensures.told honest b r c.args.clock still) r
    (record { asked = (seen c.args.tx.now).rows; due = due; same = λ t. refl })

pub returns-clause-wants : goal.returns-clause-wants
returns-clause-wants g c honest b r =
    let seen = g.T.RecordsTx.seen in
    let mid = honest_before (seen c.due_until.new.self) (seen c.drop_due.new.tx) _
    c.drop_due.ensures.call.goes_on honest in
    let same = ap table_of (c.in_ok-due.ensures.call.same mid) in
    let due = subst (AreDue (seen c.args.tx.now).rows c.args.clock) (sym c.deref.ensures.value)
    (c.in_ok-due.ensures.entries mid) in
    subst (λ (t : Table). RepresentsWaiting t b → AreStillDue c.args.clock c.deref.result.now t
    → IfErr c.drop_due.result IsMemoryOrStorage) same
    (λ r still. c.drop_due.ensures.wants honest b r c.args.clock still) r
    (record { asked = (seen c.args.tx.now).rows; due = due; same = λ t. refl })

pub returns-clause-call : goal.returns-clause-call
returns-clause-call g c =
    let seen = g.T.RecordsTx.seen in
    record {
      others = λ honest.
          let mid = honest_before (seen c.due_until.new.self) (seen c.drop_due.new.tx) _
          c.drop_due.ensures.call.goes_on honest in
          subst (λ (t : Table). OnOk c.drop_due.result (KeepsOthers of_waiting t (table (seen c.drop_due.new.tx))))
          (ap table_of (c.in_ok-due.ensures.call.same mid)) (c.drop_due.ensures.call.others honest);
      faults = each_fault (λ f. fault_then (λ damaged honest.
          let mid = honest_before (seen c.due_until.new.self) (seen c.drop_due.new.tx) _
          c.drop_due.ensures.call.goes_on honest in
          let same = ap table_of (c.in_ok-due.ensures.call.same mid) in
          let due = subst (AreDue (seen c.args.tx.now).rows c.args.clock) (sym c.deref.ensures.value)
          (c.in_ok-due.ensures.entries mid) in
          subst (λ (t : Table). (AreStillDue c.args.clock c.deref.result.now t → IsDamagedDue c.args.clock t)
          → IsDamagedDue c.args.clock (table (seen c.args.tx.now))) (sym same)
          (λ damage. damage (record { asked = (seen c.args.tx.now).rows; due = due; same = λ t. refl }))
          (damaged honest c.args.clock)) f)
          c.drop_due.result c.drop_due.ensures.call.faults;
      goes_on = goes_further (seen c.args.tx.now) (seen c.due_until.new.self) (seen c.drop_due.new.tx) _
          c.in_ok-due.ensures.call.goes_on c.drop_due.ensures.call.goes_on;
    }
