use Rattle.std.proofs.Common.{◌≡◌, ℕ, List, Result, Ok, Err, IfErr, IsErrAnd, inr, sym, subst}
use Rattle.api_client.specs.Replies.{BeginsWithReply}
use Rattle.api_client.proofs.ReplyLemmas.{error_weaker, no_reply, no_length, no_end, reply_read, rest_of}
use Rattle.api_client.proofs.replying.reply_of.Goals as goal

err_as : {A E : Type 0} (r : Result A E) (e : E) (Q : E → Type 0) → IsErrAnd r (λ x. x ≡ e) → Q e → IfErr r Q
err_as (Ok x) e Q is q = tt
err_as (Err x) e Q is q = subst Q (sym is) q

pub returns-in_default-clause-err : goal.returns-in_default-clause-err
returns-in_default-clause-err g c =
    inr (no_length _ _ c.in_ok-head.head c.in_ok-head.bytes.items c.in_ok-head.ensures.ok c.in_default.is)

pub returns-in_err-head-clause-err : goal.returns-in_err-head-clause-err
returns-in_err-head-clause-err g c =
    err_as c.from_residual.result c.in_err-head.field-0.0 _ c.from_residual.ensures.1
    (error_weaker _ _ _ c.in_err-head.field-0.0 (no_reply _) c.in_err-head.ensures.err)

pub returns-in_err-body-clause-err : goal.returns-in_err-body-clause-err
returns-in_err-body-clause-err g c =
    err_as c.from_residual-in_err-body.result c.in_err-body.field-0.0 _ c.from_residual-in_err-body.ensures.1
    (error_weaker _ _ _ c.in_err-body.field-0.0
    (no_end _ _ c.in_ok-head.head c.in_ok-head.bytes.items c.in-Some.body_len c.in_ok-head.ensures.ok c.in-Some.is)
    (rw (c.as_slice.ensures.value, rest_of c.in_ok-head.head.len c.in_ok-head.bytes.items) at
    c.in_err-body.ensures.err))

pub returns-clause-ok : goal.returns-clause-ok
returns-clause-ok g c = λ input is.
    let read = reply_read _ _ _ c.in_ok-head.head c.in_ok-head.bytes.items c.in-Some.body_len c.in_ok-body.body.items
    c.in_ok-head.ensures.ok c.in-Some.is
    (rw (c.as_slice.ensures.value, rest_of c.in_ok-head.head.len c.in_ok-head.bytes.items) at c.in_ok-body.ensures.ok)
    input is in
    subst (λ (b : List ℕ). BeginsWithReply input (record { status = c.in_ok-head.head.status; body = b }))
    (sym c.new.ensures) read
