use Rattle.std.proofs.Common.{◌≡◌, Option, Some, None, refl, sym, ap, ◌∙◌, subst}
use Rattle.std.specs.FinMap as map
use Rattle.broker_model.specs.Words.{same_Some, err_from_is_err_and, drop_waiting, Text, honest_before, IsTokenInRange}
use Rattle.broker_model.specs.Words.{table_of, table_of-injective, TokenEntry, Rows, none_of, nothing_spent, SpendsUse}
use Rattle.broker_model.specs.Words.{forms, Outcome, denied, for_caller}
use Rattle.records.specs.declared.kind.Kind.TheVariants as kind
use Rattle.broker_rows.specs.Words.{Caller, represents_dropped, represents_tokens, represents_waiting}
use Rattle.broker_rows.specs.Words.{still_represented, represents-spend}
use Rattle.broker.specs.Stages.{IsCaller}
use Rattle.broker.proofs.StepParts.{entry_called, nothing_called}
use Rattle.broker.proofs.order.caller.find_caller.Goals as goal

-- ---- there is no client token

pub returns-in_default-clause-told : goal.returns-in_default-clause-told
returns-in_default-clause-told g c honest b st =
    let rows = (g.T.RecordsTx.seen c.args.tx.now).rows in
    subst (λ o. IsCaller b o rows None) (sym (none_of c.args.ask.now.token c.in_default.not-Some)) (b, (λ go. refl), st)

-- ---- its row cannot be read

pub returns-in_err-known-clause-wants : goal.returns-in_err-known-clause-wants
returns-in_err-known-clause-wants g c honest b st =
    let p = err_from_is_err_and c.from_residual.result c.from_residual.ensures.1 in
    rw (p.1, p.2)
    (c.in_err-known.ensures.wants honest forms b (represents_tokens b (g.T.RecordsTx.seen c.args.tx.now).rows st))

-- ---- it is that of no token

nothing_changes : (t : Text) (old new : Rows) (left : Option TokenEntry) → left ≡ None
    → SpendsUse t (table_of old) (table_of new) left
    → (map.get old (kind.Token, t) ≡ None) × (new ≡ old)
nothing_changes t old new left none spends =
    let spent = nothing_spent t (table_of old) (table_of new)
    (subst (SpendsUse t (table_of old) (table_of new)) none spends) in
    (spent.0, table_of-injective new old spent.1)

pub returns-in_default-2-clause-told : goal.returns-in_default-2-clause-told
returns-in_default-2-clause-told g c honest b st =
    let seen = g.T.RecordsTx.seen in
    let old = (seen c.args.tx.now).rows in
    let mid = (seen c.spend.new.tx).rows in
    let new = (seen c.drop_token.new.tx).rows in
    let t = c.as_str-token.result.now in
    let none = none_of _ c.in_default-2.not-Some in
    let spent = honest_before (seen c.spend.new.tx)
    (seen c.drop_token.new.tx) _ c.drop_token.ensures.call.goes_on honest in
    let same = nothing_changes t old mid c.in_ok-known.field-0 none (c.in_ok-known.ensures.rows spent) in
    let still = still_represented b old mid same.1 st in (
      drop_waiting b t,
      subst (λ o. (go : Text → Outcome) → for_caller b o go ≡ denied (drop_waiting b t))
          (sym (c.in-Some.is ∙ ap Some (sym c.as_str-token.ensures)))
          (nothing_called b t (sym none ∙ c.in_ok-known.ensures.left spent forms b (represents_tokens b old st))),
      represents_dropped b t mid new still (c.in_ok-drop_token.ensures.told honest b (represents_waiting b mid still))
          (c.in_ok-drop_token.ensures.call.others honest),
    )

pub returns-in_err-drop_token-clause-wants : goal.returns-in_err-drop_token-clause-wants
returns-in_err-drop_token-clause-wants g c honest b st =
    let seen = g.T.RecordsTx.seen in
    let old = (seen c.args.tx.now).rows in
    let mid = (seen c.spend.new.tx).rows in
    let t = c.as_str-token.result.now in
    let spent = honest_before (seen c.spend.new.tx)
    (seen c.drop_token.new.tx) _ c.drop_token.ensures.call.goes_on honest in
    let same = nothing_changes t old mid c.in_ok-known.field-0 (none_of _ c.in_default-2.not-Some)
    (c.in_ok-known.ensures.rows spent) in
    let p = err_from_is_err_and c.from_residual-in_err-drop_token.result c.from_residual-in_err-drop_token.ensures.1 in
    rw (p.1, p.2) (c.in_err-drop_token.ensures.wants honest b
    (represents_waiting b mid (still_represented b old mid same.1 st)))

-- ---- it is that of the caller

pub returns-clause-told : goal.returns-clause-told
returns-clause-told g c honest b st =
    let seen = g.T.RecordsTx.seen in
    let old = (seen c.args.tx.now).rows in
    let t = c.as_str-token.result.now in
    let tokens = represents_tokens b old st in
    let left = sym c.in-Some-2.is ∙ c.in_ok-known.ensures.left honest forms b tokens in (
      subst (λ o. (go : Text → Outcome) → for_caller b o go ≡ go t)
          (sym (c.in-Some.is ∙ ap Some (sym c.as_str-token.ensures)))
          (entry_called b t c.in-Some-2.known st left),
      left,
      represents-spend b t old (seen c.spend.new.tx).rows st (c.in_ok-known.ensures.told honest forms b tokens)
          (c.in_ok-known.ensures.call.others honest),
    )

pub returns-clause-in_range : goal.returns-clause-in_range
returns-clause-in_range g c x is =
    subst (λ (y : Caller). IsTokenInRange y.known) (same_Some _ _ is)
    (c.in_ok-known.ensures.in_range c.in-Some-2.known c.in-Some-2.is)
