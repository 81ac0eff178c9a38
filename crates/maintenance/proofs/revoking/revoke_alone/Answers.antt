use Rattle.std.proofs.Common.{sym, subst, None}
use Rattle.broker_model.specs.Words.{err_from_is_err_and, honest_before, without_parent, Broker, forms, IsHonest}
use Rattle.broker_rows.specs.Words.{HaveEnded, Represents, represents_tokens}
use Rattle.maintenance.proofs.RevokedAlone.{has_revoked_alone}
use Rattle.maintenance.proofs.revoking.revoke_alone.Goals as goal
use Rattle.maintenance.proofs.revoking.revoke_alone.Goals.{After-leave_nothing}

pub returns-in_err-ended-clause-wants : goal.returns-in_err-ended-clause-wants
returns-in_err-ended-clause-wants g c honest b st =
    let p = err_from_is_err_and c.from_residual.result c.from_residual.ensures.1 in
    rw (p.1, p.2)
    (c.in_err-ended.ensures.wants honest forms b (represents_tokens b (g.T.RecordsTx.seen c.args.tx.now).rows st))

-- the token has ended, and what belonged to it is there
ended : (g : _) (c : goal.After-leave_nothing g) → IsHonest (g.T.RecordsTx.seen c.revoke_one.new.tx) → (b : Broker)
    → Represents None (g.T.RecordsTx.seen c.args.tx.now).rows b
    → HaveEnded None None b (without_parent b.tokens c.args.token.now) c.deref.result.now
    (g.T.RecordsTx.seen c.revoke_one.new.tx).rows
ended g c honest b st =
    let seen = g.T.RecordsTx.seen in
    let t = c.args.token.now in
    let old = (seen c.args.tx.now).rows in
    let mid = (seen c.revoke_one.new.tx).rows in
    let tokens = represents_tokens b old st in
    let did = c.in_ok-ended.ensures in
    subst (λ list. HaveEnded None None b (without_parent b.tokens t) list mid) (sym c.deref.ensures.value)
    (has_revoked_alone b t old mid c.in_ok-ended.ended.items st (did.call.others honest)
    (did.ended honest forms b tokens) (did.told honest forms b tokens))

pub returns-clause-told : goal.returns-clause-told
returns-clause-told g c honest b st =
    let seen = g.T.RecordsTx.seen in
    let at = goal.at.returns-clause-told g c in
    let revoked = honest_before (seen c.revoke_one.new.tx) (seen c.leave_nothing.new.tx) _
    c.leave_nothing.ensures.call.goes_on honest in
    c.leave_nothing.ensures.told honest None None b (without_parent b.tokens c.args.token.now)
    (ended g at.After-leave_nothing revoked b st)

pub returns-clause-wants : goal.returns-clause-wants
returns-clause-wants g c honest b st =
    let seen = g.T.RecordsTx.seen in
    let at = goal.at.returns-clause-wants g c in
    let revoked = honest_before (seen c.revoke_one.new.tx) (seen c.leave_nothing.new.tx) _
    c.leave_nothing.ensures.call.goes_on honest in
    c.leave_nothing.ensures.wants honest None None b (without_parent b.tokens c.args.token.now)
    (ended g at.After-leave_nothing revoked b st)
