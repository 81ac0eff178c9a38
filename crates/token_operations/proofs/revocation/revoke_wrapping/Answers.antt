use Rattle.broker_model.specs.Words.{sym, ap, ◌∙◌, Err, err_from_is_err_and}
use Rattle.broker_rows.specs.Words.{represents_waiting, still_represented}
use Rattle.token_operations.proofs.Holders.{acts_on_neither, acts_on_wrapping}
use Rattle.token_operations.proofs.revocation.revoke_wrapping.Goals as goal

pub returns-in_err-drop_accessor-clause-told : goal.returns-in_err-drop_accessor-clause-told
returns-in_err-drop_accessor-clause-told g c honest who b st none =
    let p = err_from_is_err_and c.from_residual.result c.from_residual.ensures.1 in
    rw (p.1 ∙ ap Err p.2)
    (c.in_err-drop_accessor.ensures.wants honest b (represents_waiting b (g.T.RecordsTx.seen c.args.tx.now).rows st))

pub returns-then-not-branch-clause-told : goal.returns-then-not-branch-clause-told
returns-then-not-branch-clause-told g c honest who b st none =
    let seen = g.T.RecordsTx.seen in
    let rows = (seen c.args.tx.now).rows in
    let new = (seen c.drop_accessor.new.tx).rows in
    let told = c.in_ok-drop_accessor.ensures.dropped honest b (represents_waiting b rows st) in
    acts_on_neither who b new c.args.accessor.now none (sym c.if-not-branch.true ∙ told)
    (still_represented b rows new (c.in_ok-drop_accessor.ensures.unknown honest c.if-not-branch.true) st)

pub returns-clause-told : goal.returns-clause-told
returns-clause-told g c honest who b st none =
    let seen = g.T.RecordsTx.seen in
    let rows = (seen c.args.tx.now).rows in
    let waiting = represents_waiting b rows st in
    let told = c.in_ok-drop_accessor.ensures.dropped honest b waiting in
    acts_on_wrapping who b (seen c.drop_accessor.new.tx).rows c.args.accessor.now none
    c.accessors_name_their_wrapping_tokens.ensures.only rows st
    (sym c.if-not-branch.false ∙ told) (c.in_ok-drop_accessor.ensures.told honest b waiting)
    (c.in_ok-drop_accessor.ensures.call.others honest)
