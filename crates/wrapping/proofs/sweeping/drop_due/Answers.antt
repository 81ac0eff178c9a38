use Rattle.records.specs.Words.{sym, subst, on_ok_weaker, each_fault, fault_then, not_damaged, on_both, of_waiting}
use Rattle.records.specs.Words.{KeepsOthers, Table, table}
use Rattle.wrapping.proofs.DueEntries.{each_keeps, due_read, swept}
use Rattle.wrapping.proofs.Ended.{all_readable, tells_swept}
use Rattle.wrapping.proofs.sweeping.drop_due.Goals as goal

pub returns-clause-rows : goal.returns-clause-rows
returns-clause-rows g c honest now still =
    let seen = g.T.RecordsTx.seen in
    on_both c.remove_each.result (λ rows read. swept now c.args.due.now (table (seen c.args.tx.now)) still
    (table (seen c.remove_each.new.tx)) read rows) (c.remove_each.ensures.rows honest) c.remove_each.ensures.readable

pub returns-clause-told : goal.returns-clause-told
returns-clause-told g c honest b r now still =
    let seen = g.T.RecordsTx.seen in
    on_ok_weaker c.remove_each.result (tells_swept now b (table (seen c.args.tx.now)) r
    (table (seen c.remove_each.new.tx)))
    (returns-clause-rows g c honest now still)

pub returns-clause-wants : goal.returns-clause-wants
returns-clause-wants g c honest b r now still =
    let old = table (g.T.RecordsTx.seen c.args.tx.now) in
    each_fault (λ f. not_damaged (λ damaged. damaged
    (due_read now c.args.due.now old still (all_readable now b old r))) f)
    c.remove_each.result c.remove_each.ensures.call.faults

pub returns-clause-call : goal.returns-clause-call
returns-clause-call g c =
    let old = table (g.T.RecordsTx.seen c.args.tx.now) in
    record {
      others = λ honest. on_ok_weaker c.remove_each.result (λ rows.
          subst (λ (t : Table). KeepsOthers of_waiting old t) (sym rows) (each_keeps c.args.due.now old))
          (c.remove_each.ensures.rows honest);
      faults = each_fault (λ f. fault_then (λ damaged honest now still all.
          damaged (due_read now c.args.due.now old still all)) f)
          c.remove_each.result c.remove_each.ensures.call.faults;
      goes_on = c.remove_each.ensures.call.goes_on;
    }
