use Rattle.broker_model.specs.Words.{Some, sym, ◌∙◌, ap, refl, same_true, Lease, none-some, same_Some}
use Rattle.broker_model.specs.Words.{lease_row-injective}
use Rattle.soundness.proofs.AnswerLemmas.{on_true}
use Rattle.soundness.proofs.ReadLemmas.{lease_unread, same_of}
use Rattle.soundness.proofs.lookups.lease_has.Goals as goal

pub returns-in-Ok-clause-found : goal.returns-in-Ok-clause-found
returns-in-Ok-clause-found g c honest = on_true c.is_same.result (λ one.
    let read = c.in-Ok.ensures.exact in (
      (c.in-Some.row.owner, c.in-Ok.lease),
      read.0,
      sym (c.in_ok-row.ensures.found honest) ∙ c.in-Some.is ∙ ap Some read.1,
      ap (λ (l : Lease). l.credential) (sym c.lease.view_is) ∙ same_true _ _ (sym c.is_same.ensures ∙ one),
    ))

pub returns-in_default-clause-whole : goal.returns-in_default-clause-whole
returns-in_default-clause-whole g c honest = λ n.
    absurd (none-some _ (sym c.in_default.is ∙ c.in_ok-row.ensures.found honest ∙ n.2))

pub returns-in-Ok-clause-whole : goal.returns-in-Ok-clause-whole
returns-in-Ok-clause-whole g c honest = λ n.
    let read = c.in-Ok.ensures.exact in
    let one = lease_row-injective c.in-Some.row.owner n.0.0 c.in-Ok.lease n.0.1 read.0 n.1
    (sym read.1 ∙ same_Some _ _ (sym c.in-Some.is ∙ c.in_ok-row.ensures.found honest ∙ n.2)) in
    c.is_same.ensures ∙ same_of _ _ (ap (λ (l : Lease). l.credential) (c.lease.view_is ∙ one.1) ∙ n.3)

pub returns-clause-whole : goal.returns-clause-whole
returns-clause-whole g c honest = λ n.
    absurd (lease_unread c.in-Some.row _ c.in-Err.ensures _ refl
    (n.0, n.1, same_Some _ _ (sym c.in-Some.is ∙ c.in_ok-row.ensures.found honest ∙ n.2)))
