use Rattle.broker_model.specs.Words.{refl, sym, ap, ◌∙◌, subst, Err, err_from_is_err_and, Broker, honest_before}
use Rattle.broker_rows.specs.Words.{HaveEnded, represents_dropped, represents_waiting}
use Rattle.token_operations.specs.Revoked.{left_by}
use Rattle.token_operations.proofs.revocation.revoke.Goals as goal

pub returns-in_err-ended-clause-told : goal.returns-in_err-ended-clause-told
returns-in_err-ended-clause-told g c honest who b st =
    let p = err_from_is_err_and c.from_residual.result c.from_residual.ensures.1 in
    rw (p.1 ∙ ap Err p.2) (c.in_err-ended.ensures.wants honest who b st)

pub returns-in_err-leave_nothing-clause-told : goal.returns-in_err-leave_nothing-clause-told
returns-in_err-leave_nothing-clause-told g c honest who b st =
    let seen = g.T.RecordsTx.seen in
    let revoked = honest_before (seen c.end_tokens.new.tx) (seen c.leave_nothing.new.tx) _
    c.leave_nothing.ensures.call.goes_on honest in
    let us = left_by c.args.descent b.tokens c.args.token.now in
    let have = subst (λ ended. HaveEnded who who b us ended (seen c.end_tokens.new.tx).rows) (sym c.deref.ensures.value)
    (c.in_ok-ended.ensures.told revoked who b st) in
    let p =
    err_from_is_err_and c.from_residual-in_err-leave_nothing.result c.from_residual-in_err-leave_nothing.ensures.1 in
    rw (p.1 ∙ ap Err p.2) (c.in_err-leave_nothing.ensures.wants honest who who b us have)

pub returns-in_err-drop_token-clause-told : goal.returns-in_err-drop_token-clause-told
returns-in_err-drop_token-clause-told g c honest who b st =
    let seen = g.T.RecordsTx.seen in
    let gone = honest_before (seen c.leave_nothing.new.tx) (seen c.drop_token.new.tx) _
    c.drop_token.ensures.call.goes_on honest in
    let revoked = honest_before (seen c.end_tokens.new.tx) (seen c.leave_nothing.new.tx) _
    c.leave_nothing.ensures.call.goes_on gone in
    let us = left_by c.args.descent b.tokens c.args.token.now in
    let next : Broker = record b { tokens = us } in
    let have = subst (λ ended. HaveEnded who who b us ended (seen c.end_tokens.new.tx).rows) (sym c.deref.ensures.value)
    (c.in_ok-ended.ensures.told revoked who b st) in
    let rest = c.in_ok-leave_nothing.ensures.told gone who who b us have in
    let p = err_from_is_err_and c.from_residual-in_err-drop_token.result c.from_residual-in_err-drop_token.ensures.1 in
    rw (p.1 ∙ ap Err p.2)
    (c.in_err-drop_token.ensures.wants honest next (represents_waiting next (seen c.leave_nothing.new.tx).rows rest))

pub returns-clause-told : goal.returns-clause-told
returns-clause-told g c honest who b st =
    let seen = g.T.RecordsTx.seen in
    let gone = honest_before (seen c.leave_nothing.new.tx) (seen c.drop_token.new.tx) _
    c.drop_token.ensures.call.goes_on honest in
    let revoked = honest_before (seen c.end_tokens.new.tx) (seen c.leave_nothing.new.tx) _
    c.leave_nothing.ensures.call.goes_on gone in
    let left = (seen c.leave_nothing.new.tx).rows in
    let us = left_by c.args.descent b.tokens c.args.token.now in
    let next : Broker = record b { tokens = us } in
    let have = subst (λ ended. HaveEnded who who b us ended (seen c.end_tokens.new.tx).rows) (sym c.deref.ensures.value)
    (c.in_ok-ended.ensures.told revoked who b st) in
    let rest = c.in_ok-leave_nothing.ensures.told gone who who b us have in
    let dropped = c.in_ok-drop_token.ensures in (
      refl,
      represents_dropped next c.args.token.now left (seen c.drop_token.new.tx).rows rest
          (dropped.told honest next (represents_waiting next left rest)) (dropped.call.others honest),
    )
