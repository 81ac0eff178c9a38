use Rattle.records.specs.Words.{IfOk, List, sym, subst, IfOk-weaker, fault_then, not_damaged, each_fault, RowKey}
use Rattle.token_tree.specs.Words.{Row, has_come, EndsDescent, AreStarted, EndsListed, HasDamagedDescent}
use Rattle.token_tree.proofs.Beginnings.{due_tokens}
use Rattle.token_tree.proofs.Ends.{on_each, undamaged, expiry_told, expiry_ended}
use Rattle.token_tree.proofs.sweeping.end_due.Goals as goal

pub returns-clause-rows : goal.returns-clause-rows
returns-clause-rows g c honest due =
    let seen = g.T.RecordsTx.seen in
    let rows = (seen c.args.tx.now).rows in
    let started = subst (AreStarted (has_come c.args.clock) rows) (sym c.in_ok-started.ensures)
    (due_tokens rows c.args.clock c.args.due.now due) in
    subst (λ n. AreStarted (has_come n) rows c.in_ok-started.started.items
    → IfOk c.end_all.result (λ list. EndsDescent (has_come n) rows list.items (seen c.end_all.new.tx).rows))
    c.seconds.ensures.value (c.end_all.ensures.rows honest) started

pub returns-clause-any_list : goal.returns-clause-any_list
returns-clause-any_list g c honest =
    let seen = g.T.RecordsTx.seen in
    subst (λ (first : List (RowKey × Row)). IfOk c.end_all.result (λ list.
    EndsListed first (seen c.args.tx.now).rows list.items (seen c.end_all.new.tx).rows)) c.in_ok-started.ensures
    (c.end_all.ensures.any_list honest)

pub returns-clause-call : goal.returns-clause-call
returns-clause-call g c =
    let rows = (g.T.RecordsTx.seen c.args.tx.now).rows in
    record {
      others = c.end_all.ensures.call.others;
      faults = each_fault (λ f. fault_then (λ damage honest due.
          subst (λ n. AreStarted (has_come n) rows c.in_ok-started.started.items → HasDamagedDescent (has_come n) rows)
          c.seconds.ensures.value (damage honest)
          (subst (AreStarted (has_come c.args.clock) rows) (sym c.in_ok-started.ensures)
          (due_tokens rows c.args.clock c.args.due.now due))) f)
          c.end_all.result c.end_all.ensures.call.faults;
      goes_on = c.end_all.ensures.call.goes_on;
    }

pub returns-clause-told : goal.returns-clause-told
returns-clause-told g c honest forms b stands due =
    on_each c.end_all.result _
    (λ list ends. expiry_told forms b (g.T.RecordsTx.seen c.args.tx.now).rows stands c.args.clock list.items _ ends)
    (returns-clause-rows g c honest due)

pub returns-clause-ended : goal.returns-clause-ended
returns-clause-ended g c honest forms b stands due =
    IfOk-weaker c.end_all.result _ _ (λ list ends. expiry_ended forms b
    (g.T.RecordsTx.seen c.args.tx.now).rows stands c.args.clock list.items _ ends)
    (returns-clause-rows g c honest due)

pub returns-clause-wants : goal.returns-clause-wants
unfolding returns-clause-call
returns-clause-wants g c honest forms b stands due =
    each_fault (λ f. not_damaged (λ damage. undamaged forms b (g.T.RecordsTx.seen c.args.tx.now).rows stands
    (has_come c.args.clock) (damage honest due)) f)
    c.end_all.result (returns-clause-call g c).faults
