use Rattle.std.proofs.Common.{◌≡◌, Some, sym, ◌∙◌, ap}
use Rattle.broker_model.specs.Words.{MatchOption-at_some, none-some, same_Some, MatchOption-at_none, same_true}
use Rattle.broker_model.specs.Words.{IsTokenInRange, entry_row, entry_row-injective, TokenEntry}
use Rattle.soundness.proofs.AnswerLemmas.{on_true}
use Rattle.soundness.proofs.ReadLemmas.{same_of}
use Rattle.soundness.proofs.lookups.token_has.Goals as goal

pub returns-in-Some-2-clause-found : goal.returns-in-Some-2-clause-found
returns-in-Some-2-clause-found g c honest = on_true c.is_same.result (λ one.
    let read = MatchOption-at_some _ (λ (x : TokenEntry). IsTokenInRange x × (c.in-Some.row ≡ entry_row x))
    c.in-Some-2.found
    c.in-Some-2.is c.in_ok-found.ensures.found in (
      c.in-Some-2.found,
      read.0,
      sym (c.in_ok-row.ensures.found honest) ∙ c.in-Some.is ∙ ap Some read.1,
      ap (λ (x : TokenEntry). x.accessor) (sym c.found.view_is) ∙ sym c.as_str.ensures
          ∙ same_true _ _ (sym c.is_same.ensures ∙ one),
    ))

pub returns-in_default-clause-whole : goal.returns-in_default-clause-whole
returns-in_default-clause-whole g c honest = λ n.
    absurd (none-some _ (sym c.in_default.is ∙ c.in_ok-row.ensures.found honest ∙ n.2))

pub returns-clause-whole : goal.returns-clause-whole
returns-clause-whole g c honest = λ n.
    absurd (MatchOption-at_none _ _ c.in-None.is c.in_ok-found.ensures.whole
    (n.0, n.1, same_Some _ _ (sym c.in-Some.is ∙ c.in_ok-row.ensures.found honest ∙ n.2)))

pub returns-in-Some-2-clause-whole : goal.returns-in-Some-2-clause-whole
returns-in-Some-2-clause-whole g c honest = λ n.
    let read = MatchOption-at_some _ (λ (x : TokenEntry). IsTokenInRange x × (c.in-Some.row ≡ entry_row x))
    c.in-Some-2.found
    c.in-Some-2.is c.in_ok-found.ensures.found in
    let one : c.in-Some-2.found ≡ n.0 = entry_row-injective c.in-Some-2.found n.0 read.0 n.1
    (sym read.1 ∙ same_Some _ _ (sym c.in-Some.is ∙ c.in_ok-row.ensures.found honest ∙ n.2)) in
    c.is_same.ensures
    ∙ same_of _ _ (c.as_str.ensures ∙ ap (λ (x : TokenEntry). x.accessor) (c.found.view_is ∙ one) ∙ n.3)
