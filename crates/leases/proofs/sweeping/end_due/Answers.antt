use Rattle.records.specs.Words.{on_ok_weaker, fault_then, each_fault, table_of}
use Rattle.leases.specs.Words.{has_come, leases_among}
use Rattle.leases.proofs.Endings.{each_readable, leases_ended, others_after}
use Rattle.leases.proofs.ListedLeases.{those_due}
use Rattle.leases.proofs.sweeping.end_due.Goals as goal

pub returns-clause-rows : goal.returns-clause-rows
returns-clause-rows g c honest now still =
    let old = (g.T.RecordsTx.seen c.args.tx.now).rows in
    let new = (g.T.RecordsTx.seen c.remove_leases.new.tx).rows in
    let due = c.args.due.now in
    on_ok_weaker c.remove_leases.result
    (λ each. leases_ended (has_come now) (leases_among due) old new (those_due (table_of old) now due still) each)
    (c.remove_leases.ensures.rows honest)

pub returns-clause-call : goal.returns-clause-call
returns-clause-call g c =
    let old = (g.T.RecordsTx.seen c.args.tx.now).rows in
    let new = (g.T.RecordsTx.seen c.remove_leases.new.tx).rows in
    let due = c.args.due.now in
    record {
      others = λ honest. on_ok_weaker c.remove_leases.result (λ each. others_after (leases_among due) old new each)
          (c.remove_leases.ensures.rows honest);
      faults = each_fault (λ f. fault_then (λ damage honest now still readable.
          damage (each_readable (has_come now) (leases_among due) old old
          (those_due (table_of old) now due still) readable)) f)
          c.remove_leases.result c.remove_leases.ensures.call.faults;
      goes_on = c.remove_leases.ensures.call.goes_on;
    }
