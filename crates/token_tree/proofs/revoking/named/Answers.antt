use Rattle.std.proofs.Common.{◌∷◌, [], sym, ◌∙◌, subst}
use Rattle.records.specs.declared.kind.Kind.TheVariants as kind
use Rattle.records.specs.Words.{none_of}
use Rattle.token_tree.specs.Words.{is_named, AreStarted}
use Rattle.token_tree.proofs.Beginnings.{unnamed, named_once}
use Rattle.token_tree.proofs.revoking.named.Goals as goal

pub returns-in_default-clause-found : goal.returns-in_default-clause-found
returns-in_default-clause-found g c honest =
    rw c.new.ensures.items (unnamed (g.T.RecordsTx.seen c.args.tx.now).rows c.args.token.now
    (sym (c.in_ok-row.ensures.found honest) ∙ none_of _ c.in_default.not-Some))

pub returns-clause-found : goal.returns-clause-found
returns-clause-found g c honest =
    let rows = (g.T.RecordsTx.seen c.args.tx.now).rows in
    subst (AreStarted (is_named c.args.token.now) rows)
    (sym (c.in_ok-vec.ensures.items ∙ (λ i. ((kind.Token, c.in_ok-key.ensures i), c.in-Some.row) ∷ [])))
    (named_once rows c.args.token.now c.in-Some.row (sym (c.in_ok-row.ensures.found honest) ∙ c.in-Some.is))
