use Rattle.std.proofs.Common.{◌≡◌, ◌==◌, ◌∷◌, [], true, List, ℕ, length, subst, sym, ap, ◌∙◌, arith, eqb→eq, refl}
use Rattle.records.specs.Words.{true≢false, IfOk-weaker}
use lib.Dec.{T}
use Rattle.token_tree.specs.Words.{children}
use Rattle.token_tree.proofs.Found.{no_children, owned_children}
use Rattle.token_tree.proofs.descending.children_of.Goals as goal

no_bytes : (t : List ℕ) → (length t == 0) ≡ true → t ≡ []
no_bytes [] h = refl
no_bytes (c ∷ t) h =
    absurd (let none : length (c ∷ t) ≡ 0 = eqb→eq (length (c ∷ t)) 0 (subst T (sym h) tt) in omega (arith, none))

pub returns-then-is_empty-clause-found : goal.returns-then-is_empty-clause-found
returns-then-is_empty-clause-found g c honest =
    let rows = (g.T.RecordsTx.seen c.args.tx.now).rows in
    c.new.ensures.items
    ∙ sym (ap (children rows) (no_bytes c.args.token.now (sym c.is_empty.ensures ∙ c.if-is_empty.true))
    ∙ no_children rows)

pub returns-clause-found : goal.returns-clause-found
returns-clause-found g c honest =
    let rows = (g.T.RecordsTx.seen c.args.tx.now).rows in
    let named = λ (empty : c.args.token.now ≡ []). true≢false
    (sym (c.is_empty.ensures ∙ ap (λ t. length t == 0) empty) ∙ c.if-is_empty.false) in
    IfOk-weaker c.by_owner.result _ _ (λ list is. is ∙ owned_children c.args.token.now rows named)
    (c.by_owner.ensures.entries honest)
