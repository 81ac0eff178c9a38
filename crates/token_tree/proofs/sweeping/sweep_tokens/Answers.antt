use Rattle.records.specs.Words.{rules, sym, subst, IfOk, OnOk, IfOk-weaker, honest_before, fault_then, not_damaged}
use Rattle.records.specs.Words.{each_fault, AreDue, of_tokens, KeepsOthers, table_of}
use Rattle.token_tree.specs.Words.{has_come, EndsDescent, HasDamagedDescent}
use Rattle.token_tree.proofs.Ends.{on_each, undamaged, expiry_told, expiry_ended}
use Rattle.token_tree.proofs.Found.{damaged_descent}
use Rattle.token_tree.proofs.sweeping.sweep_tokens.Goals as goal

pub returns-clause-rows : goal.returns-clause-rows
returns-clause-rows g c honest =
    let seen = g.T.RecordsTx.seen in
    let s = has_come c.args.clock in
    let mid = honest_before (seen c.due_until.new.self)
    (seen c.end_due.new.tx) _ c.end_due.ensures.call.goes_on honest in
    let same = c.in_ok-due.ensures.call.same mid in
    subst (λ rows. AreDue rows c.args.clock c.deref.result.now
    → IfOk c.end_due.result (λ list. EndsDescent s rows list.items (seen c.end_due.new.tx).rows)) same
    (c.end_due.ensures.rows honest)
    (subst (AreDue (seen c.args.tx.now).rows c.args.clock) (sym c.deref.ensures.value)
    (c.in_ok-due.ensures.entries mid))

pub returns-clause-told : goal.returns-clause-told
returns-clause-told g c honest forms b stands =
    on_each c.end_due.result _
    (λ list ends. expiry_told forms b (g.T.RecordsTx.seen c.args.tx.now).rows stands c.args.clock list.items _ ends)
    (returns-clause-rows g c honest)

pub returns-clause-ended : goal.returns-clause-ended
returns-clause-ended g c honest forms b stands =
    IfOk-weaker c.end_due.result _ _ (λ list ends. expiry_ended forms b
    (g.T.RecordsTx.seen c.args.tx.now).rows stands c.args.clock list.items _ ends)
    (returns-clause-rows g c honest)

pub returns-clause-wants : goal.returns-clause-wants
returns-clause-wants g c honest forms b stands =
    let seen = g.T.RecordsTx.seen in
    let s = has_come c.args.clock in
    let mid = honest_before (seen c.due_until.new.self)
    (seen c.end_due.new.tx) _ c.end_due.ensures.call.goes_on honest in
    let same = c.in_ok-due.ensures.call.same mid in
    let due = subst (AreDue (seen c.args.tx.now).rows c.args.clock) (sym c.deref.ensures.value)
    (c.in_ok-due.ensures.entries mid) in
    each_fault (λ f. not_damaged (λ damage. undamaged forms b (seen c.args.tx.now).rows stands s
    (subst (HasDamagedDescent s) same
    (damage honest (subst (λ rows. AreDue rows c.args.clock c.deref.result.now) (sym same) due)))) f)
    c.end_due.result c.end_due.ensures.call.faults

pub returns-clause-call : goal.returns-clause-call
returns-clause-call g c =
    let seen = g.T.RecordsTx.seen in
    let s = has_come c.args.clock in
    record {
      others = λ honest.
          let mid = honest_before (seen c.due_until.new.self)
          (seen c.end_due.new.tx) _ c.end_due.ensures.call.goes_on honest in
          subst (λ rows. OnOk c.end_due.result
          (KeepsOthers of_tokens (table_of rows) (table_of (seen c.end_due.new.tx).rows)))
          (c.in_ok-due.ensures.call.same mid) (c.end_due.ensures.call.others honest);
      faults = each_fault (λ f. fault_then (λ damage honest.
          let mid = honest_before (seen c.due_until.new.self)
          (seen c.end_due.new.tx) _ c.end_due.ensures.call.goes_on honest in
          let same = c.in_ok-due.ensures.call.same mid in
          let due = subst (AreDue (seen c.args.tx.now).rows c.args.clock) (sym c.deref.ensures.value)
          (c.in_ok-due.ensures.entries mid) in
          damaged_descent s (seen c.args.tx.now).rows (subst (HasDamagedDescent s) same
          (damage honest (subst (λ rows. AreDue rows c.args.clock c.deref.result.now) (sym same) due)))) f)
          c.end_due.result c.end_due.ensures.call.faults;
      goes_on = search rules;
    }
