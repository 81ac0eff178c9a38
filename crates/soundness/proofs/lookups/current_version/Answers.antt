use Rattle.broker_model.specs.Words.{sym, ◌∙◌, none-some, same_Some, MatchOption-at_none}
use Rattle.soundness.proofs.lookups.current_version.Goals as goal

pub returns-in_default-clause-whole : goal.returns-in_default-clause-whole
returns-in_default-clause-whole g c honest = λ k row.
    none-some _ (sym c.in_default.is ∙ c.in_ok-row.ensures.found honest ∙ row.1)

pub returns-clause-whole : goal.returns-clause-whole
returns-clause-whole g c honest = λ k row.
    MatchOption-at_none _ _ c.in-None.is c.in_ok-key.ensures.whole
    (k, row.0, same_Some _ _ (sym c.in-Some.is ∙ c.in_ok-row.ensures.found honest ∙ row.1))
