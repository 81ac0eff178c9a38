use Rattle.broker_model.specs.Words.{sym, subst, err_from_is_err_and, on_ok_weaker, revoke, without_descendants, Sound}
use Rattle.broker_model.specs.Words.{end_spent_sound, honest_before, AreEnded, forms, Some, None}
use Rattle.broker_rows.proofs.Callers.{represents-unspent, spent_revoked}
use Rattle.broker_rows.specs.Words.{HaveEnded, revoked_left, Represents, represents_tokens, still_represented}
use Rattle.broker_rows.proofs.ending.end_spent.Goals as goal

pub returns-then-not-branch-clause-told : goal.returns-then-not-branch-clause-told
returns-then-not-branch-clause-told g c honest b st =
    let seen = g.T.RecordsTx.seen in
    represents-unspent b c.args.caller.now (seen c.args.tx.now).rows st
    (seen c.is_spent.new.tx).rows c.in_ok-is_spent.field-0
    (c.in_ok-is_spent.ensures.told honest b st) c.if-not-branch.true (c.in_ok-is_spent.ensures.call.same honest)

pub returns-in_err-ended-clause-wants : goal.returns-in_err-ended-clause-wants
returns-in_err-ended-clause-wants g c honest b st =
    let seen = g.T.RecordsTx.seen in
    let asked = honest_before (seen c.is_spent.new.tx) (seen c.revoke.new.tx) _ c.revoke.ensures.call.goes_on honest in
    let old = (seen c.args.tx.now).rows in
    let still = still_represented b old (seen c.is_spent.new.tx).rows (c.in_ok-is_spent.ensures.call.same asked) st in
    let p = err_from_is_err_and c.from_residual-in_err-ended.result c.from_residual-in_err-ended.ensures.1 in
    rw (p.1, p.2) (c.in_err-ended.ensures.wants honest forms b
    (represents_tokens b (seen c.is_spent.new.tx).rows still))

pub returns-clause-told : goal.returns-clause-told
returns-clause-told g c honest b st =
    let seen = g.T.RecordsTx.seen in
    let caller = c.args.caller.now in
    let ended = c.deref.result.now in
    let revoked = honest_before (seen c.revoke.new.tx)
    (seen c.leave_nothing.new.tx) _ c.leave_nothing.ensures.call.goes_on honest in
    let asked = honest_before (seen c.is_spent.new.tx) (seen c.revoke.new.tx) _ c.revoke.ensures.call.goes_on revoked in
    let old = (seen c.is_spent.new.tx).rows in
    let mid = (seen c.revoke.new.tx).rows in
    let still = still_represented b (seen c.args.tx.now).rows old (c.in_ok-is_spent.ensures.call.same asked) st in
    let tokens = represents_tokens b old still in
    let is = spent_revoked b caller old still c.in_ok-is_spent.field-0
    (c.in_ok-is_spent.ensures.told asked b st) c.if-not-branch.false in
    let are = subst (AreEnded b (revoke b caller)) (sym c.deref.ensures.value)
    (c.in_ok-ended.ensures.ended revoked forms b tokens) in
    let left : HaveEnded (Some caller) None b (without_descendants b.tokens caller) ended mid =
    revoked_left b caller old mid ended still
    (subst (Sound forms None) is (end_spent_sound forms (Some caller) b st.sound)) are
    (c.in_ok-ended.ensures.told revoked forms b tokens) (c.in_ok-ended.ensures.call.others revoked) in
    on_ok_weaker c.leave_nothing.result (subst (Represents None (seen c.leave_nothing.new.tx).rows) (sym is))
    (c.leave_nothing.ensures.told honest (Some caller) None b (without_descendants b.tokens caller) left)

pub returns-clause-wants : goal.returns-clause-wants
returns-clause-wants g c honest b st =
    let seen = g.T.RecordsTx.seen in
    let caller = c.args.caller.now in
    let ended = c.deref.result.now in
    let revoked = honest_before (seen c.revoke.new.tx)
    (seen c.leave_nothing.new.tx) _ c.leave_nothing.ensures.call.goes_on honest in
    let asked = honest_before (seen c.is_spent.new.tx) (seen c.revoke.new.tx) _ c.revoke.ensures.call.goes_on revoked in
    let old = (seen c.is_spent.new.tx).rows in
    let mid = (seen c.revoke.new.tx).rows in
    let still = still_represented b (seen c.args.tx.now).rows old (c.in_ok-is_spent.ensures.call.same asked) st in
    let tokens = represents_tokens b old still in
    let is = spent_revoked b caller old still c.in_ok-is_spent.field-0
    (c.in_ok-is_spent.ensures.told asked b st) c.if-not-branch.false in
    let are = subst (AreEnded b (revoke b caller)) (sym c.deref.ensures.value)
    (c.in_ok-ended.ensures.ended revoked forms b tokens) in
    let left : HaveEnded (Some caller) None b (without_descendants b.tokens caller) ended mid =
    revoked_left b caller old mid ended still
    (subst (Sound forms None) is (end_spent_sound forms (Some caller) b st.sound)) are
    (c.in_ok-ended.ensures.told revoked forms b tokens) (c.in_ok-ended.ensures.call.others revoked) in
    c.leave_nothing.ensures.wants honest (Some caller) None b (without_descendants b.tokens caller) left
