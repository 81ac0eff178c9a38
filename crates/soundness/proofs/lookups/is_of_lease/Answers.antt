use Rattle.std.proofs.Common.{◌≡◌, Some, sym, ◌∙◌, ap, refl}
use Rattle.broker_model.specs.Words.{same_true, credential_row, none-some, same_Some, Row}
use Rattle.soundness.proofs.AnswerLemmas.{on_true}
use Rattle.soundness.proofs.ReadLemmas.{credential_unread, same_of}
use Rattle.soundness.proofs.lookups.is_of_lease.Goals as goal

pub returns-in-Ok-clause-found : goal.returns-in-Ok-clause-found
returns-in-Ok-clause-found g c honest = on_true c.is_same.result (λ one.
    let owner = sym c.as_str.ensures ∙ same_true c.as_str.result.now c.args.lease_id.now
    (sym c.is_same.ensures ∙ one) in
    sym (c.in_ok-row.ensures.found honest) ∙ c.in-Some.is
    ∙ ap Some (c.in-Ok.ensures.exact.1 ∙ ap credential_row owner))

pub returns-in_default-clause-whole : goal.returns-in_default-clause-whole
returns-in_default-clause-whole g c honest = λ row.
    absurd (none-some _ (sym c.in_default.is ∙ c.in_ok-row.ensures.found honest ∙ row))

pub returns-in-Ok-clause-whole : goal.returns-in-Ok-clause-whole
returns-in-Ok-clause-whole g c honest = λ row.
    let is : c.in-Some.row ≡ credential_row c.args.lease_id.now =
    same_Some _ _ (sym c.in-Some.is ∙ c.in_ok-row.ensures.found honest ∙ row) in
    c.is_same.ensures ∙ same_of _ _ (c.as_str.ensures ∙ ap (λ (r : Row). r.owner) is)

pub returns-clause-whole : goal.returns-clause-whole
returns-clause-whole g c honest = λ row.
    absurd (credential_unread c.in-Some.row _ tt c.in-Err.ensures _ refl
    (c.args.lease_id.now, tt, same_Some _ _ (sym c.in-Some.is ∙ c.in_ok-row.ensures.found honest ∙ row)))
