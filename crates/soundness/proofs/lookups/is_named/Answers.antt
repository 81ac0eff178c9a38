use Rattle.std.proofs.Common.{◌≡◌, Some, sym, ◌∙◌, ap, refl}
use Rattle.broker_model.specs.Words.{same_true, accessor_row, false≢true, none-some, same_Some, Row}
use Rattle.soundness.proofs.AnswerLemmas.{on_true, from_true}
use Rattle.soundness.specs.Words.{Named}
use Rattle.soundness.proofs.BrokenLemmas.{named_one}
use Rattle.soundness.proofs.ReadLemmas.{accessor_unread, same_of}
use Rattle.soundness.proofs.lookups.is_named.Goals as goal

pub returns-in-Ok-clause-found : goal.returns-in-Ok-clause-found
returns-in-Ok-clause-found g c honest = on_true c.are_alike.result (λ alike.
    let owner = sym c.as_str.ensures ∙ same_true c.as_str.result.now c.args.token.now
    (sym c.is_same.ensures ∙ c.if-not-is_same.false) in
    let what = from_true c.are_alike.result alike c.are_alike.ensures.sound in
    sym (c.in_ok-row.ensures.found honest) ∙ c.in-Some.is
    ∙ ap Some (c.in-Ok.ensures.exact.1 ∙ (λ i. accessor_row (owner i) (what i))))

pub returns-in_default-clause-whole : goal.returns-in_default-clause-whole
returns-in_default-clause-whole g c honest = λ row.
    absurd (none-some _ (sym c.in_default.is ∙ c.in_ok-row.ensures.found honest ∙ row))

pub returns-then-not-is_same-clause-whole : goal.returns-then-not-is_same-clause-whole
returns-then-not-is_same-clause-whole g c honest = λ row.
    let is : c.in-Some.row ≡ accessor_row c.args.token.now c.args.what =
    same_Some _ _ (sym c.in-Some.is ∙ c.in_ok-row.ensures.found honest ∙ row) in
    absurd (false≢true (sym c.if-not-is_same.true ∙ c.is_same.ensures
    ∙ same_of _ _ (c.as_str.ensures ∙ ap (λ (r : Row). r.owner) is)))

pub returns-in-Ok-clause-whole : goal.returns-in-Ok-clause-whole
returns-in-Ok-clause-whole g c honest = λ row.
    let is : c.in-Some.row ≡ accessor_row c.args.token.now c.args.what =
    same_Some _ _ (sym c.in-Some.is ∙ c.in_ok-row.ensures.found honest ∙ row) in
    c.are_alike.ensures.whole
    (ap (λ (n : Named). n.1) (named_one (c.in-Some.row.owner, c.in-Ok.found) (c.args.token.now, c.args.what) tt tt
    (sym c.in-Ok.ensures.exact.1 ∙ is)))

pub returns-clause-whole : goal.returns-clause-whole
returns-clause-whole g c honest = λ row.
    let is : c.in-Some.row ≡ accessor_row c.args.token.now c.args.what =
    same_Some _ _ (sym c.in-Some.is ∙ c.in_ok-row.ensures.found honest ∙ row) in
    absurd (accessor_unread c.in-Some.row _ c.in-Err.ensures _ refl ((c.args.token.now, c.args.what), tt, is))
