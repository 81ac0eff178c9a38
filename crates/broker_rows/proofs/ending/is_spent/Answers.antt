use Rattle.std.proofs.Common.{◌≡◌, ◌==◌, Some, None, sym, ap, ◌∙◌, false}
use Rattle.broker_model.specs.Words.{option_map_or, err_from_is_err_and, none_of, TokenEntry, forms, get}
use Rattle.broker_rows.proofs.Callers.{unknown_unspent, limit_told}
use Rattle.broker_rows.specs.Words.{represents_tokens}
use Rattle.broker_rows.proofs.ending.is_spent.Goals as goal

pub returns-in_default-clause-told : goal.returns-in_default-clause-told
returns-in_default-clause-told g c honest b st =
    let old = (g.T.RecordsTx.seen c.args.tx.now).rows in
    unknown_unspent (get b.tokens c.args.caller.now) c.in_ok-token.field-0
    (c.in_ok-token.ensures.told honest forms b (represents_tokens b old st)) (none_of _ c.in_default.not-Some)

pub returns-in_err-token-clause-wants : goal.returns-in_err-token-clause-wants
returns-in_err-token-clause-wants g c honest b st =
    let p = err_from_is_err_and c.from_residual.result c.from_residual.ensures.1 in
    rw (p.1, p.2) (c.in_err-token.ensures.wants honest forms b
    (represents_tokens b (g.T.RecordsTx.seen c.args.tx.now).rows st))

pub returns-in-None-clause-told : goal.returns-in-None-clause-told
returns-in-None-clause-told g c honest b st =
    let told = c.in_ok-token.ensures.told honest forms b
    (represents_tokens b (g.T.RecordsTx.seen c.args.tx.now).rows st) in
    let uses : c.in-Some.token.uses_left ≡ None = ap (λ (e : TokenEntry). e.uses_left) (sym c.token.view_is)
    ∙ c.in-None.is in
    limit_told (get b.tokens c.args.caller.now) c.in_ok-token.field-0 c.in-Some.token false told c.in-Some.is
    (ap (λ o. option_map_or (λ n. n == 0) o false) (sym uses))

pub returns-clause-told : goal.returns-clause-told
returns-clause-told g c honest b st =
    let told = c.in_ok-token.ensures.told honest forms b
    (represents_tokens b (g.T.RecordsTx.seen c.args.tx.now).rows st) in
    let uses : c.in-Some.token.uses_left ≡ Some c.in-Some-uses_left.uses =
    ap (λ (e : TokenEntry). e.uses_left) (sym c.token.view_is) ∙ c.in-Some-uses_left.is in
    limit_told (get b.tokens c.args.caller.now) c.in_ok-token.field-0 c.in-Some.token _ told c.in-Some.is
    (ap (λ o. option_map_or (λ n. n == 0) o false) (sym uses))
