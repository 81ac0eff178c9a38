use Rattle.std.proofs.Common.{◌≡◌, Some, is_some, not, refl, sym, ap, ◌∙◌}
use Rattle.broker_model.specs.Words.{names_of, TokenEntry, forms, auth_reply}
use Rattle.broker_rows.specs.Words.{Context, represents_tokens}
use Rattle.token_operations.proofs.TokenRenewals.{acts_endless, acts_renewed}
use Rattle.token_operations.proofs.TokenTables.{represents-renewed}
use Rattle.token_operations.proofs.renewal.renew_found.Goals as goal

pub returns-then-is_none-clause-told : goal.returns-then-is_none-clause-told
returns-then-is_none-clause-told g c honest who b starts here =
    acts_endless b (g.T.RecordsTx.seen c.args.tx.now).rows who c.args.token.now (names_of c.args.context.now.words)
    c.args.increment
    (Some c.args.found) here c.args.found starts.represents refl
    (ap (λ (e : TokenEntry). is_some e.ends) (sym c.found.view_is) ∙ c.is_none.ensures ∙ ap not c.if-is_none.true)

pub returns-clause-told : goal.returns-clause-told
returns-clause-told g c honest who b starts here =
    let seen = g.T.RecordsTx.seen in
    let old = (seen c.args.tx.now).rows in
    let new = (seen c.renew.new.tx).rows in
    let t = c.args.token.now in
    let names = names_of c.args.context.now.words in
    let ends = c.new_end-ends.result in
    let now = c.context.inside.clock in
    let clock : now ≡ c.args.context.now.clock = ap (λ (x : Context). x.clock) c.context.view_is in
    let st = starts.represents in
    acts_renewed b new who t names c.args.increment (Some c.args.found) here names.request now ends c.args.found
    c.in_ok-auth_reply.field-0 refl
    (starts.clock ∙ sym clock) refl
    (ap (λ (e : TokenEntry). is_some e.ends) (sym c.found.view_is) ∙ c.is_none.ensures ∙ ap not c.if-is_none.false)
    c.new_end-ends.ensures.is
    (c.in_ok-auth_reply.ensures
    ∙ (λ i. auth_reply names.request (sym clock i) (c.in_ok-text.ensures i) (c.in_ok-renewed.ensures.renewed i)))
    (represents-renewed b t ends old new st
    c.new_end-ends.ensures.near
    (c.in_ok-renewed.ensures.told honest forms b (represents_tokens b old st) here)
    (c.in_ok-renewed.ensures.call.others honest))
