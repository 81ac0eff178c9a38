use Rattle.records.specs.Words.{inl, inr, refl, sym, ap, ◌∙◌, Err, Some, none-some, same_Some, Waiting}
use Rattle.records.specs.Words.{IsWaitingInRange, waiting_row}
use Rattle.database_check.specs.Naming.{visible}
use Rattle.database_check.proofs.NamingLemmas.{unread}
use Rattle.database_check.proofs.defect.accessor_of_response.Goals as goal

pub returns-in_default-clause-named : goal.returns-in_default-clause-named
returns-in_default-clause-named g c honest =
    inr ((λ x _ is. none-some _ (sym c.in_default.is ∙ c.in_ok-row.ensures.found honest ∙ is)), refl)

pub returns-in-Ok-clause-named : goal.returns-in-Ok-clause-named
returns-in-Ok-clause-named g c honest =
    let read = c.in-Ok.ensures.exact in
    inl (
      c.in-Ok.waiting,
      read.0,
      sym (c.in_ok-row.ensures.found honest) ∙ c.in-Some.is ∙ ap Some read.1,
      c.in_ok-visible-in-Ok.ensures ∙ ap visible (ap (λ (w : Waiting). w.accessor) c.waiting.view_is),
    )

pub returns-clause-named : goal.returns-clause-named
returns-clause-named g c honest =
    inr (
      (λ x in_range is. unread IsWaitingInRange waiting_row c.in-Some.row (Err c.in-Err.field-0)
          c.in-Err.ensures _ refl x in_range
          (same_Some _ _ (sym c.in-Some.is ∙ c.in_ok-row.ensures.found honest ∙ is))),
      refl,
    )
