use Rattle.broker_model.specs.Words.{[], Err, Some, sym, ap, ◌∙◌, rules, err_from_is_err_and, names_of, honest_before}
use Rattle.broker_model.specs.Words.{on_answer_weaker, forms, look_up}
use Rattle.broker_rows.specs.Words.{represents_tokens, still_represented}
use Rattle.token_operations.proofs.Named.{acts_on_named, acts_on_none}
use Rattle.token_operations.proofs.lookup.look_up_accessor.Goals as goal

pub returns-in_err-token-clause-told : goal.returns-in_err-token-clause-told
returns-in_err-token-clause-told g c who honest b starts fresh =
    let p = err_from_is_err_and c.from_residual.result c.from_residual.ensures.1 in
    rw (p.1 ∙ ap Err p.2)
    (c.in_err-token.ensures.wants honest forms b
    (represents_tokens b (g.T.RecordsTx.seen c.args.tx.now).rows starts.represents))

pub returns-in_default-clause-told : goal.returns-in_default-clause-told
returns-in_default-clause-told g c who honest b starts fresh =
    let seen = g.T.RecordsTx.seen in
    let rows = (seen c.args.tx.now).rows in
    let new = (seen c.find_accessor.new.tx).rows in
    let told = c.in_ok-token.ensures.told honest forms b (represents_tokens b rows starts.represents) in
    acts_on_none who b new c.args.accessor.now (λ t. look_up b (names_of c.args.context.now.words) t [])
    (sym told ∙ c.in_default.is)
    (still_represented b rows new (c.in_ok-token.ensures.call.same honest) starts.represents)

pub returns-clause-told : goal.returns-clause-told
returns-clause-told g c who honest b starts fresh =
    let seen = g.T.RecordsTx.seen in
    let rows = (seen c.args.tx.now).rows in
    let mid =
    honest_before (seen c.find_accessor.new.tx) (seen c.look_up.new.tx) _ c.look_up.ensures.call.goes_on honest in
    let told = c.in_ok-token.ensures.told mid forms b (represents_tokens b rows starts.represents) in
    acts_on_named who b (seen c.look_up.new.tx).rows c.args.accessor.now
    (λ t. look_up b (names_of c.args.context.now.words) t [])
    c.as_str.result.now c.look_up.result (sym told ∙ c.in-Some.is ∙ ap Some (sym c.as_str.ensures))
    (c.look_up.ensures.told who honest b (record {
      represents = still_represented b rows (seen c.find_accessor.new.tx).rows (c.in_ok-token.ensures.call.same mid)
          starts.represents;
      here = starts.here;
      clock = starts.clock;
    }) fresh)

pub returns-clause-call : goal.returns-clause-call
returns-clause-call g c =
    let seen = g.T.RecordsTx.seen in
    record {
      same = λ honest.
          let mid = honest_before (seen c.find_accessor.new.tx)
          (seen c.look_up.new.tx) _ c.look_up.ensures.call.goes_on honest in
          on_answer_weaker c.look_up.result (λ same. same ∙ c.in_ok-token.ensures.call.same mid)
          (c.look_up.ensures.call.same honest);
      faults = search rules;
      goes_on = search rules;
    }
