use Rattle.broker_model.specs.Words.{IfOk, Ok, Some, Err, Result, ap, rules, subst, sym, names_of, Text, Refusal}
use Rattle.broker_model.specs.Words.{Answer, fault_goes_on, honest_before, Wrapped, finish, served}
use Rattle.broker_rows.specs.Words.{Caller, Gives}
use Rattle.broker.specs.Stages.{HasServed, may_be_spent}
use Rattle.broker.proofs.UnspentStays.{has_served}
use Rattle.broker.proofs.order.serving.answer_caller.Goals as goal

pub returns-in-Ok-clause-told : goal.returns-in-Ok-clause-told
returns-in-Ok-clause-told g c shut honest b begins =
    let seen = g.T.RecordsTx.seen in
    let who = c.args.caller in
    let t = ap (λ (x : Caller). x.token) c.caller.view_is in
    let left = honest_before (seen c.serve.new.tx) (seen c.finish.new.tx) _ c.finish.ensures.call.goes_on honest in
    let m : Result Wrapped Refusal = served b (Some who.token) (names_of c.args.context.now.words) c.args.ask.now in
    let done = (seen c.serve.new.tx).rows in
    let has = has_served c.operations_do_as_told.ensures b who c.args.context.now.words c.args.ask.now
    (seen c.args.tx.now).rows done (Ok c.in-Ok.answered) c.is_on_last_use-is_last_use.result
    begins.begins.represents begins.caller c.is_on_last_use-is_last_use.ensures
    (c.in-Ok.ensures.told shut left b begins) in
    subst (λ (caller : Text). IfOk c.finish.result
    (λ a. Gives a (seen c.finish.new.tx).rows (finish b (Some caller) m))) t
    (c.finish.ensures.told honest b m
    (subst (λ (caller : Text). HasServed (may_be_spent caller c.is_on_last_use-is_last_use.result) done b
    (Ok c.in-Ok.answered) m) (sym t) has))

pub returns-in-Ok-clause-safely : goal.returns-in-Ok-clause-safely
returns-in-Ok-clause-safely g c =
    let seen = g.T.RecordsTx.seen in
    let who = c.args.caller in
    let t = ap (λ (x : Caller). x.token) c.caller.view_is in
    record {
      room = c.finish.ensures.room;
      listed = c.finish.ensures.listed;
      wants = λ honest b needs.
          let left = honest_before (seen c.serve.new.tx)
          (seen c.finish.new.tx) _ c.finish.ensures.call.goes_on honest in
          let m : Result Wrapped Refusal =
          served b (Some who.token) (names_of c.args.context.now.words) c.args.ask.now in
          let done = (seen c.serve.new.tx).rows in
          let has = has_served c.operations_do_as_told.ensures b who c.args.context.now.words c.args.ask.now
          (seen c.args.tx.now).rows done (Ok c.in-Ok.answered) c.is_on_last_use-is_last_use.result
          needs.1.begins.represents needs.1.caller c.is_on_last_use-is_last_use.ensures
          (c.in-Ok.ensures.told needs.0 left b needs.1) in
          c.finish.ensures.wants honest b m
          (subst (λ (caller : Text). HasServed (may_be_spent caller c.is_on_last_use-is_last_use.result) done b
          (Ok c.in-Ok.answered) m) (sym t) has);
      goes_on = search rules;
    }

pub returns-in-Err-Refused-clause-told : goal.returns-in-Err-Refused-clause-told
returns-in-Err-Refused-clause-told g c shut honest b begins =
    let seen = g.T.RecordsTx.seen in
    let who = c.args.caller in
    let t = ap (λ (x : Caller). x.token) c.caller.view_is in
    let left = honest_before (seen c.serve.new.tx)
    (seen c.finish-in-Err-Refused.new.tx) _ c.finish-in-Err-Refused.ensures.call.goes_on honest in
    let m : Result Wrapped Refusal = served b (Some who.token) (names_of c.args.context.now.words) c.args.ask.now in
    let done = (seen c.serve.new.tx).rows in
    let refused : HasServed (Some who.token) done b (Err c.in-Err-Refused.refusal) m =
    rw c.in-Err-Refused.field-0-is at (c.in-Err-Refused.ensures.told shut left b begins) in
    let has = has_served c.operations_do_as_told.ensures b who c.args.context.now.words c.args.ask.now
    (seen c.args.tx.now).rows done (Err c.in-Err-Refused.refusal) c.is_on_last_use-is_last_use.result
    begins.begins.represents begins.caller c.is_on_last_use-is_last_use.ensures refused in
    subst (λ (caller : Text). IfOk c.finish-in-Err-Refused.result
    (λ a. Gives a (seen c.finish-in-Err-Refused.new.tx).rows (finish b (Some caller) m))) t
    (c.finish-in-Err-Refused.ensures.told honest b m
    (subst (λ (caller : Text). HasServed (may_be_spent caller c.is_on_last_use-is_last_use.result) done b
    (Err c.in-Err-Refused.refusal) m) (sym t) has))

pub returns-in-Err-Refused-clause-safely : goal.returns-in-Err-Refused-clause-safely
returns-in-Err-Refused-clause-safely g c =
    let seen = g.T.RecordsTx.seen in
    let who = c.args.caller in
    let t = ap (λ (x : Caller). x.token) c.caller.view_is in
    record {
      room = c.finish-in-Err-Refused.ensures.room;
      listed = c.finish-in-Err-Refused.ensures.listed;
      wants = λ honest b needs.
          let left = honest_before (seen c.serve.new.tx)
          (seen c.finish-in-Err-Refused.new.tx) _ c.finish-in-Err-Refused.ensures.call.goes_on honest in
          let m : Result Wrapped Refusal =
          served b (Some who.token) (names_of c.args.context.now.words) c.args.ask.now in
          let done = (seen c.serve.new.tx).rows in
          let refused : HasServed (Some who.token) done b (Err c.in-Err-Refused.refusal) m =
          rw c.in-Err-Refused.field-0-is at (c.in-Err-Refused.ensures.told needs.0 left b needs.1) in
          let has = has_served c.operations_do_as_told.ensures b who c.args.context.now.words c.args.ask.now
          (seen c.args.tx.now).rows done (Err c.in-Err-Refused.refusal) c.is_on_last_use-is_last_use.result
          needs.1.begins.represents needs.1.caller c.is_on_last_use-is_last_use.ensures refused in
          c.finish-in-Err-Refused.ensures.wants honest b m
          (subst (λ (caller : Text). HasServed (may_be_spent caller c.is_on_last_use-is_last_use.result) done b
          (Err c.in-Err-Refused.refusal) m) (sym t) has);
      goes_on = search rules;
    }

pub returns-in-Err-Fault-clause-safely : goal.returns-in-Err-Fault-clause-safely
returns-in-Err-Fault-clause-safely g c =
    let seen = g.T.RecordsTx.seen in
    record {
      room = search rules;
      listed = search rules;
      wants = λ honest b needs. rw c.in-Err-Fault.field-0-is at (c.in-Err-Fault.ensures.told needs.0 honest b needs.1);
      goes_on = fault_goes_on Answer _ _ c.in-Err-Fault.fault
          (rw c.in-Err-Fault.field-0-is at c.in-Err-Fault.ensures.call.goes_on);
    }
