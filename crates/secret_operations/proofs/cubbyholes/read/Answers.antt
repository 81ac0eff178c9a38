use Rattle.broker_model.specs.Words.{None, Some, Ok, Err, ap, refl, sym, ◌∙◌, err_from_is_err_and, plain_reply}
use Rattle.broker_model.specs.Words.{names_of, reply, plainly, Text, of_cubbyholes, none_of, object_at, forms}
use Rattle.broker_rows.specs.Words.{caller_len, still_represented, tells_part, acts_found, acts_absent}
use Rattle.secret_operations.proofs.cubbyholes.read.Goals as goal

pub returns-in_err-object-clause-told : goal.returns-in_err-object-clause-told
returns-in_err-object-clause-told g c honest b starts fresh =
    let old = (g.T.RecordsTx.seen c.args.tx.now).rows in
    let caller = c.args.caller.now in
    let st = starts.represents in
    let p = err_from_is_err_and c.from_residual.result c.from_residual.ensures.1 in
    rw (p.1 ∙ ap Err p.2)
    (c.in_err-object.ensures.wants honest forms b st.sound.tokens (tells_part of_cubbyholes b old st)
    (caller_len b old caller st (starts.here caller refl)))

pub returns-in_default-clause-told : goal.returns-in_default-clause-told
returns-in_default-clause-told g c honest b starts fresh =
    let seen = g.T.RecordsTx.seen in
    let old = (seen c.args.tx.now).rows in
    let new = (seen c.read.new.tx).rows in
    let request = (names_of c.args.context.now.words).request in
    let caller = c.args.caller.now in
    let st = starts.represents in
    acts_absent b new (Some caller) (λ (kept : Text). plainly (reply (plain_reply request kept) None) b)
    (object_at b caller c.args.path.now)
    (sym (c.in_ok-object.ensures.told honest b (tells_part of_cubbyholes b old st)
    (caller_len b old caller st (starts.here caller refl)))
    ∙ none_of _ c.in_default.not-Some)
    (still_represented b old new (c.in_ok-object.ensures.call.same honest) st)

pub returns-clause-told : goal.returns-clause-told
returns-clause-told g c honest b starts fresh =
    let seen = g.T.RecordsTx.seen in
    let old = (seen c.args.tx.now).rows in
    let new = (seen c.read.new.tx).rows in
    let request = (names_of c.args.context.now.words).request in
    let caller = c.args.caller.now in
    let st = starts.represents in
    acts_found b new (Some caller) (λ (kept : Text). plainly (reply (plain_reply request kept) None) b)
    (object_at b caller c.args.path.now)
    c.in-Some.object (Ok c.in_ok-shown.field-0)
    (sym (c.in_ok-object.ensures.told honest b (tells_part of_cubbyholes b old st)
    (caller_len b old caller st (starts.here caller refl))) ∙ c.in-Some.is)
    (c.in_ok-shown.ensures, still_represented b old new (c.in_ok-object.ensures.call.same honest) st)
