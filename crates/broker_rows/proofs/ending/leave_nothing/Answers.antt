use Rattle.broker_model.specs.Words.{on_ok_weaker, err_from_is_err_and, honest_before, not_damaged}
use Rattle.broker_rows.proofs.Ended.{represents-ended, theirs_readable}
use Rattle.broker_rows.proofs.ending.leave_nothing.Goals as goal

pub returns-clause-rows : goal.returns-clause-rows
returns-clause-rows g c honest =
    let seen = g.T.RecordsTx.seen in
    let dropped = honest_before (seen c.drop_owners.new.tx)
    (seen c.drop_cubbyholes.new.tx) _ c.drop_cubbyholes.ensures.call.goes_on honest in
    on_ok_weaker c.drop_cubbyholes.result (λ bare. record {
      mid = (seen c.drop_owners.new.tx).rows;
      leases = c.in_ok-drop_owners.ensures.rows dropped;
      cubbyholes = bare;
    }) (c.drop_cubbyholes.ensures.rows honest)

pub returns-clause-told : goal.returns-clause-told
returns-clause-told g c honest who after b us e =
    let seen = g.T.RecordsTx.seen in
    let mid = (seen c.args.tx.now).rows in
    let new = (seen c.drop_cubbyholes.new.tx).rows in
    on_ok_weaker c.drop_cubbyholes.result (λ leaves.
    represents-ended b us c.args.ended.now mid e new leaves c.ended_tokens_leave_nothing.ensures
    c.leases_go_with_tokens.ensures.told)
    (returns-clause-rows g c honest)

pub returns-in_err-drop_owners-clause-wants : goal.returns-in_err-drop_owners-clause-wants
returns-in_err-drop_owners-clause-wants g c honest who after b us e =
    let p = err_from_is_err_and c.from_residual.result c.from_residual.ensures.1 in
    rw (p.1, p.2)
    (not_damaged (λ damage. damage honest
    (theirs_readable b us c.args.ended.now (g.T.RecordsTx.seen c.args.tx.now).rows e)) _
    c.in_err-drop_owners.ensures.call.faults)
