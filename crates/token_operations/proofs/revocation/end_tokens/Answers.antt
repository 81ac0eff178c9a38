use Rattle.broker_model.specs.Words.{Result, Ok, Err, IfOk, OnOk, forms}
use Rattle.broker_rows.specs.Words.{represents_tokens}
use Rattle.token_operations.proofs.TokenTables.{has_revoked, has_revoked_alone}
use Rattle.token_operations.proofs.revocation.end_tokens.Goals as goal

-- three facts of a call that did not fail
three : {A E P R : Type 0} {Q S : A → Type 0} (result : Result A E) → ((x : A) → P → Q x → R → S x) → OnOk result P
    → IfOk result Q → OnOk result R → IfOk result S
three (Ok x) f p q r = f x p q r
three (Err e) f p q r = tt

pub returns-in-Ends-clause-told : goal.returns-in-Ends-clause-told
returns-in-Ends-clause-told g c honest who b st =
    let seen = g.T.RecordsTx.seen in
    let old = (seen c.args.tx.now).rows in
    let tokens = represents_tokens b old st in
    let did = c.revoke.ensures in
    rw c.in-Ends.is
    (three c.revoke.result (λ list. has_revoked b c.args.token.now old (seen c.revoke.new.tx).rows list.items st)
    (did.call.others honest) (did.ended honest forms b tokens) (did.told honest forms b tokens))

pub returns-in-Stays-clause-told : goal.returns-in-Stays-clause-told
returns-in-Stays-clause-told g c honest who b st =
    let seen = g.T.RecordsTx.seen in
    let old = (seen c.args.tx.now).rows in
    let tokens = represents_tokens b old st in
    let did = c.revoke_one.ensures in
    rw c.in-Stays.is
    (three c.revoke_one.result (λ list. has_revoked_alone b c.args.token.now old (seen c.revoke_one.new.tx).rows
    list.items st)
    (did.call.others honest) (did.ended honest forms b tokens) (did.told honest forms b tokens))

pub returns-in-Ends-clause-wants : goal.returns-in-Ends-clause-wants
returns-in-Ends-clause-wants g c honest who b st =
    c.revoke.ensures.wants honest forms b (represents_tokens b (g.T.RecordsTx.seen c.args.tx.now).rows st)

pub returns-in-Stays-clause-wants : goal.returns-in-Stays-clause-wants
returns-in-Stays-clause-wants g c honest who b st =
    c.revoke_one.ensures.wants honest forms b (represents_tokens b (g.T.RecordsTx.seen c.args.tx.now).rows st)
