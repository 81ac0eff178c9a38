use Rattle.broker_model.specs.Words.{on_ok_weaker, honest_before, goes_further, default_policy}
use Rattle.broker_rows.proofs.FirstRows.{settings_put}
use Rattle.broker_rows.proofs.start.put_settings.Goals as goal

pub returns-clause-call : goal.returns-clause-call
returns-clause-call g c =
    let seen = g.T.RecordsTx.seen in
    record {
      faults = c.put-3.ensures.call.faults;
      goes_on = goes_further (seen c.args.tx.now) (seen c.put.new.self)
          (seen c.put-3.new.self) _ c.in_ok-put.ensures.call.goes_on
          (goes_further (seen c.put.new.self) (seen c.put-2.new.self)
          (seen c.put-3.new.self) _ c.in_ok-put-2.ensures.call.goes_on
          c.put-3.ensures.call.goes_on);
    }

pub returns-clause-rows : goal.returns-clause-rows
unfolding default_policy
returns-clause-rows g c honest =
    let seen = g.T.RecordsTx.seen in
    let second = honest_before (seen c.put-2.new.self) (seen c.put-3.new.self) _ c.put-3.ensures.call.goes_on honest in
    let first = honest_before (seen c.put.new.self)
    (seen c.put-2.new.self) _ c.in_ok-put-2.ensures.call.goes_on second in
    on_ok_weaker c.put-3.result
    (λ put. settings_put (seen c.args.tx.now).rows (seen c.put.new.self).rows (seen c.put-2.new.self).rows
    (seen c.put-3.new.self).rows c.args.moment _ _ _
    (c.in_ok-put.ensures.rows first)
    (c.in_ok-put-2.ensures.rows second) put c.in_ok-write_clock.ensures c.in_ok-secret_row.ensures
    c.in_ok-write_policy.ensures)
    (c.put-3.ensures.rows honest)
