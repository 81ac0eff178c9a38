use Rattle.std.proofs.Common.{◌≡◌, Some, sym, ◌∙◌, ap, refl}
use Rattle.broker_model.specs.Words.{same_true, Waiting, none-some, same_Some, IsWaitingInRange, waiting_row}
use Rattle.broker_model.specs.Words.{waiting_row-injective}
use Rattle.soundness.proofs.AnswerLemmas.{on_true}
use Rattle.soundness.proofs.ReadLemmas.{unread, same_of}
use Rattle.soundness.proofs.lookups.response_has.Goals as goal

pub returns-in-Ok-clause-found : goal.returns-in-Ok-clause-found
returns-in-Ok-clause-found g c honest = on_true c.is_same.result (λ one.
    let read = c.in-Ok.ensures.exact in (
      c.in-Ok.found,
      read.0,
      sym (c.in_ok-row.ensures.found honest) ∙ c.in-Some.is ∙ ap Some read.1,
      ap (λ (w : Waiting). w.accessor) (sym c.found.view_is) ∙ same_true _ _ (sym c.is_same.ensures ∙ one),
    ))

pub returns-in_default-clause-whole : goal.returns-in_default-clause-whole
returns-in_default-clause-whole g c honest = λ n.
    absurd (none-some _ (sym c.in_default.is ∙ c.in_ok-row.ensures.found honest ∙ n.2))

pub returns-in-Ok-clause-whole : goal.returns-in-Ok-clause-whole
returns-in-Ok-clause-whole g c honest = λ n.
    let read = c.in-Ok.ensures.exact in
    let one : c.in-Ok.found ≡ n.0 = waiting_row-injective c.in-Ok.found n.0 read.0 n.1
    (sym read.1 ∙ same_Some _ _ (sym c.in-Some.is ∙ c.in_ok-row.ensures.found honest ∙ n.2)) in
    c.is_same.ensures ∙ same_of _ _ (ap (λ (w : Waiting). w.accessor) (c.found.view_is ∙ one) ∙ n.3)

pub returns-clause-whole : goal.returns-clause-whole
returns-clause-whole g c honest = λ n.
    absurd (unread IsWaitingInRange waiting_row c.in-Some.row _ c.in-Err.ensures _ refl
    (n.0, n.1, same_Some _ _ (sym c.in-Some.is ∙ c.in_ok-row.ensures.found honest ∙ n.2)))
