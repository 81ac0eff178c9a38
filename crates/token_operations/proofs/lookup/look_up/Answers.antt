use Rattle.broker_model.specs.Words.{Err, ap, ◌∙◌, err_from_is_err_and, names_of, none_of, forms}
use Rattle.broker_rows.specs.Words.{represents_tokens, still_represented}
use Rattle.token_operations.proofs.TokenLookups.{acts_look_up, acts_unknown}
use Rattle.token_operations.proofs.lookup.look_up.Goals as goal

pub returns-in_err-found-clause-told : goal.returns-in_err-found-clause-told
returns-in_err-found-clause-told g c who honest b starts fresh =
    let p = err_from_is_err_and c.from_residual.result c.from_residual.ensures.1 in
    rw (p.1 ∙ ap Err p.2)
    (c.in_err-found.ensures.wants honest forms b
    (represents_tokens b (g.T.RecordsTx.seen c.args.tx.now).rows starts.represents))

pub returns-in_default-clause-told : goal.returns-in_default-clause-told
returns-in_default-clause-told g c who honest b starts fresh =
    let seen = g.T.RecordsTx.seen in
    let rows = (seen c.args.tx.now).rows in
    let known = c.args.context.now in
    acts_unknown b (seen c.find.new.tx).rows who c.args.token.now c.args.id.now
    (names_of known.words) c.in_ok-found.field-0
    (still_represented b rows (seen c.find.new.tx).rows (c.in_ok-found.ensures.call.same honest) starts.represents)
    (c.in_ok-found.ensures.told honest forms b (represents_tokens b rows starts.represents))
    (none_of _ c.in_default.not-Some)

pub returns-clause-told : goal.returns-clause-told
returns-clause-told g c who honest b starts fresh =
    let seen = g.T.RecordsTx.seen in
    let rows = (seen c.args.tx.now).rows in
    let known = c.args.context.now in
    acts_look_up b (seen c.find.new.tx).rows who c.args.token.now c.args.id.now
    (names_of known.words) c.in_ok-found.field-0
    (still_represented b rows (seen c.find.new.tx).rows (c.in_ok-found.ensures.call.same honest) starts.represents)
    (c.in_ok-found.ensures.told honest forms b (represents_tokens b rows starts.represents))
    known.clock c.in-Some.found _ starts.clock c.in-Some.is c.in_ok-shown.ensures
