use Rattle.broker_model.specs.Words.{Err, Some, sym, ap, ◌∙◌, subst, err_from_is_err_and, names_of, honest_before}
use Rattle.broker_model.specs.Words.{table_of, Rows, none_of, IsTokenAt, forms}
use Rattle.broker_rows.specs.Words.{represents_tokens, still_represented}
use Rattle.token_operations.proofs.TokenRenewals.{acts_unknown}
use Rattle.token_operations.proofs.renewal.renew.Goals as goal

pub returns-in_err-found-clause-told : goal.returns-in_err-found-clause-told
returns-in_err-found-clause-told g c who honest b starts fresh =
    let p = err_from_is_err_and c.from_residual.result c.from_residual.ensures.1 in
    rw (p.1 ∙ ap Err p.2)
    (c.in_err-found.ensures.wants honest forms b
    (represents_tokens b (g.T.RecordsTx.seen c.args.tx.now).rows starts.represents))

pub returns-in_default-clause-told : goal.returns-in_default-clause-told
returns-in_default-clause-told g c who honest b starts fresh =
    let seen = g.T.RecordsTx.seen in
    let rows = (seen c.args.tx.now).rows in
    let known = c.args.context.now in
    acts_unknown b (seen c.find.new.tx).rows who c.args.token.now (names_of known.words) c.args.increment
    c.in_ok-found.field-0
    (c.in_ok-found.ensures.told honest forms b (represents_tokens b rows starts.represents))
    (still_represented b rows (seen c.find.new.tx).rows (c.in_ok-found.ensures.call.same honest) starts.represents)
    (none_of _ c.in_default.not-Some)

pub returns-clause-told : goal.returns-clause-told
returns-clause-told g c who honest b starts fresh =
    let seen = g.T.RecordsTx.seen in
    let rows = (seen c.args.tx.now).rows in
    let before =
    honest_before (seen c.find.new.tx) (seen c.renew_found.new.tx) _ c.renew_found.ensures.call.goes_on honest in
    c.renew_found.ensures.told honest who b
    (record {
      represents = still_represented b rows (seen c.find.new.tx).rows (c.in_ok-found.ensures.call.same before)
          starts.represents;
      here = starts.here;
      clock = starts.clock;
    })
    (sym c.in-Some.is ∙ c.in_ok-found.ensures.told before forms b (represents_tokens b rows starts.represents))

pub renew_found-requires-clause-there : goal.renew_found-requires-clause-there
renew_found-requires-clause-there g c honest =
    let seen = g.T.RecordsTx.seen in
    let t = c.args.token.now in
    subst (λ (rows : Rows). IsTokenAt (table_of rows) t (Some c.in-Some.found))
    (sym (c.in_ok-found.ensures.call.same honest))
    (subst (IsTokenAt (table_of (seen c.args.tx.now).rows) t) c.in-Some.is (c.in_ok-found.ensures.found honest))
