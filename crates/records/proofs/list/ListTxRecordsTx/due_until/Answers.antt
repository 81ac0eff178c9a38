use Rattle.std.proofs.Common.{◌≡◌, List, IsPermutation, filter, sym, ap, subst, ◌∙◌}
use Rattle.records.specs.Words.{RowKey, is_due, rows_due, rows_in, Row}
use Rattle.records.proofs.MapLemmas.{lists}
use Rattle.records.proofs.list.ListTxRecordsTx.due_until.Goals as goal

pub returns-clause-entries : goal.returns-clause-entries
returns-clause-entries c honest =
    let es = c.args.self.now.entries.items in
    let chosen : c.in_ok-list.list.items ≡ rows_due (rows_in es) c.args.moment =
    c.in_ok-list.ensures.ok
    ∙ ap (filter (λ (e : RowKey × Row). is_due c.args.moment e.1.due))
    (c.deref.ensures.value ∙ sym (lists es c.args.self.now.in_order)) in
    record {
      whole = subst (λ (l : List (RowKey × Row)). IsPermutation l c.sort_by_due.new.list.items) chosen
          c.in_ok-sort_by_due.ensures.whole;
      sorted = c.in_ok-sort_by_due.ensures.sorted;
    }
