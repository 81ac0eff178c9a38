use Rattle.broker_model.specs.Words.{Err, Some, sym, ap, ◌∙◌, err_from_is_err_and, honest_before, forms}
use Rattle.broker_rows.specs.Words.{represents_tokens, still_represented}
use Rattle.token_operations.proofs.Holders.{acts_on_holder}
use Rattle.token_operations.proofs.revocation.revoke_accessor.Goals as goal

pub returns-in_err-token-clause-told : goal.returns-in_err-token-clause-told
returns-in_err-token-clause-told g c honest who b st =
    let p = err_from_is_err_and c.from_residual.result c.from_residual.ensures.1 in
    rw (p.1 ∙ ap Err p.2)
    (c.in_err-token.ensures.wants honest forms b (represents_tokens b (g.T.RecordsTx.seen c.args.tx.now).rows st))

pub returns-in_default-clause-told : goal.returns-in_default-clause-told
returns-in_default-clause-told g c honest who b st =
    let seen = g.T.RecordsTx.seen in
    let rows = (seen c.args.tx.now).rows in
    let new = (seen c.find_accessor.new.tx).rows in
    let mid = honest_before (seen c.find_accessor.new.tx) (seen c.revoke_wrapping.new.tx) _
    c.revoke_wrapping.ensures.call.goes_on honest in
    let told = c.in_ok-token.ensures.told mid forms b (represents_tokens b rows st) in
    c.revoke_wrapping.ensures.told honest who b
    (still_represented b rows new (c.in_ok-token.ensures.call.same mid) st) (sym told ∙ c.in_default.is)

pub returns-clause-told : goal.returns-clause-told
returns-clause-told g c honest who b st =
    let seen = g.T.RecordsTx.seen in
    let rows = (seen c.args.tx.now).rows in
    let mid =
    honest_before (seen c.find_accessor.new.tx) (seen c.revoke.new.tx) _ c.revoke.ensures.call.goes_on honest in
    let told = c.in_ok-token.ensures.told mid forms b (represents_tokens b rows st) in
    acts_on_holder who b (seen c.revoke.new.tx).rows c.args.accessor.now
    c.as_str.result.now c.revoke.result (sym told ∙ c.in-Some.is ∙ ap Some (sym c.as_str.ensures))
    (c.revoke.ensures.told honest who b (still_represented b rows (seen c.find_accessor.new.tx).rows
    (c.in_ok-token.ensures.call.same mid) st))
