use Rattle.broker_model.specs.Words.{sym, ap, ◌∙◌, unless}
use Rattle.broker_types.specs.declared.refusal.Refusal.TheVariants as refusal
use Rattle.broker_types.specs.declared.refusal.Reason.TheVariants as reason
use Rattle.token_operations.proofs.TokenChecks.{seventh}
use Rattle.token_operations.proofs.new_token.check.Goals as goal

pub returns : goal.returns
returns c =
    seventh _ _ _ _ _ _ _ _ _ _ _ _ _ _
    (ap (λ v. unless v (refusal.BadRequest reason.RestrictedToken)) (sym c.is_unlimited.ensures)
    ∙ sym c.unless.ensures ∙ c.in_ok-unless.was)
    (ap (λ v. unless v (refusal.BadRequest reason.InvalidName)) (sym c.are_names.ensures) ∙ sym c.unless-2.ensures
    ∙ c.in_ok-unless-2.was)
    (ap (λ v. unless v (refusal.BadRequest reason.RootByRootAlone)) (sym c.is_root_its_own.ensures)
    ∙ sym c.unless-3.ensures ∙ c.in_ok-unless-3.was)
    (ap (λ v. unless v (refusal.BadRequest reason.PoliciesBeyondParent)) (sym c.are_its_own.ensures)
    ∙ sym c.unless-4.ensures ∙ c.in_ok-unless-4.was)
    (ap (λ v. unless v (refusal.BadRequest reason.OrphanNeedsSudo)) (sym c.is_parted.ensures) ∙ sym c.unless-5.ensures
    ∙ c.in_ok-unless-5.was)
    (ap (λ v. unless v (refusal.BadRequest reason.ExpiringRoot)) (sym c.is_end_kept.ensures) ∙ sym c.unless-6.ensures
    ∙ c.in_ok-unless-6.was)
    (c.unless-7.ensures ∙ ap (λ v. unless v (refusal.BadRequest reason.PeriodNeedsSudo)) c.may_be_periodic.ensures)
