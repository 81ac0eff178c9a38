use Rattle.records.specs.Words.{[], ap, ◌∙◌, sym, subst, AllByRecursion, IfOk-weaker, each_fault, not_damaged}
use Rattle.records.specs.Words.{decode_fault}
use Rattle.token_tree.specs.Words.{IsAccessorRow, with_accessors}
use Rattle.token_tree.proofs.Names.{accessors_listed, accessors_readable, collected}
use Rattle.token_tree.proofs.by_accessor.accessors.Goals as goal

pub returns-clause-told : goal.returns-clause-told
returns-clause-told g c honest forms b stands =
    let rows = (g.T.RecordsTx.seen c.args.tx.now).rows in
    IfOk-weaker c.names_of.result _ _ (λ names is.
    is ∙ ap (λ es. with_accessors es []) (c.deref.ensures.value ∙ c.in_ok-listed.ensures.entries honest)
    ∙ accessors_listed b rows stands.tells) c.names_of.ensures.found

pub returns-clause-wants : goal.returns-clause-wants
returns-clause-wants g c honest forms b stands =
    let rows = (g.T.RecordsTx.seen c.args.tx.now).rows in
    each_fault (λ f is. not_damaged (λ (damage : AllByRecursion IsAccessorRow c.deref.result.now → ⊥). damage
    (subst (AllByRecursion IsAccessorRow) (sym (c.deref.ensures.value ∙ c.in_ok-listed.ensures.entries honest))
    (accessors_readable b rows stands.tells)))
    f (decode_fault (λ damage. damage) f is)) c.names_of.result c.names_of.ensures.faults

pub returns-clause-found : goal.returns-clause-found
returns-clause-found g c honest =
    IfOk-weaker c.names_of.result _ _ (λ names is.
    is ∙ ap (λ es. with_accessors es []) (c.deref.ensures.value ∙ c.in_ok-listed.ensures.entries honest)
    ∙ collected _ []) c.names_of.ensures.found
