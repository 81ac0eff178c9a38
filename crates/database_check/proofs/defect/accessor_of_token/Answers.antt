use Rattle.records.specs.Words.{inl, inr, refl, sym, ap, ◌∙◌, Err, Some, none-some, same_Some, IsTokenInRange}
use Rattle.records.specs.Words.{entry_row, TokenEntry}
use Rattle.database_check.specs.Naming.{visible}
use Rattle.database_check.proofs.NamingLemmas.{damaged_unread}
use Rattle.database_check.proofs.defect.accessor_of_token.Goals as goal

pub returns-in_default-clause-named : goal.returns-in_default-clause-named
returns-in_default-clause-named g c honest =
    inr ((λ x _ is. none-some _ (sym c.in_default.is ∙ c.in_ok-row.ensures.found honest ∙ is)), refl)

pub returns-in-Ok-clause-named : goal.returns-in-Ok-clause-named
returns-in-Ok-clause-named g c honest =
    let read = c.in-Ok.ensures.exact in
    inl (
      c.in-Ok.token,
      read.0,
      sym (c.in_ok-row.ensures.found honest) ∙ c.in-Some.is ∙ ap Some read.1,
      c.in_ok-visible-in-Ok.ensures
          ∙ ap visible (c.as_str.ensures ∙ ap (λ (x : TokenEntry). x.accessor) c.token.view_is),
    )

pub returns-in-Err-Damaged-clause-named : goal.returns-in-Err-Damaged-clause-named
returns-in-Err-Damaged-clause-named g c honest =
    inr (
      (λ x in_range is. damaged_unread IsTokenInRange entry_row c.in-Some.row c.read_token.result
          c.read_token.ensures (c.in-Err-Damaged.is ∙ ap Err c.in-Err-Damaged.field-0-is) x in_range
          (same_Some _ _ (sym c.in-Some.is ∙ c.in_ok-row.ensures.found honest ∙ is))),
      refl,
    )
