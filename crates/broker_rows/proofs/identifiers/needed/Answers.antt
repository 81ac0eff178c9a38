use Rattle.std.proofs.Common.{◌≡◌, ◌∷◌, ◌∙◌, IfOk, List, [], Result, sym, ap, subst}
use Rattle.broker_model.specs.Words.{id, Names, names_of, Text, names_needed}
use Rattle.broker_model.specs.declared.commands.Needs.{Needs}
use Rattle.broker_rows.specs.Words.{ArePrinted}
use Rattle.broker_rows.proofs.identifiers.needed.Goals as goal

-- those that were printed are those that are needed
are_needed : {V E : Type 0} (items : V → List Text) (result : Result V E) (names : Names) (needs is : Needs)
    (own : List Text) → needs ≡ is → own ≡ names_needed is names → IfOk result (λ v. ArePrinted (items v) own)
    → IfOk result (λ v. ArePrinted (items v) (names_needed needs names))
are_needed items result names needs is own e same printed =
    subst (λ (asked : List Text). IfOk result (λ v. ArePrinted (items v) asked))
    (same ∙ ap (λ (n : Needs). names_needed n names) (sym e)) printed

pub returns-in-Token : goal.returns-in-Token
unfolding names_of
returns-in-Token c =
    are_needed (λ own. own.items) c.printed.result (names_of c.args.words.now) c.args.needs _ _ c.in-Token.is
    (λ i. id (c.token.ensures i) ∷ id (c.accessor.ensures i) ∷ []) c.printed.ensures

pub returns-in-Lease : goal.returns-in-Lease
unfolding names_of
returns-in-Lease c =
    are_needed (λ own. own.items) c.printed-in-Lease.result (names_of c.args.words.now) c.args.needs _ _ c.in-Lease.is
    (λ i. id (c.lease.ensures i) ∷ id (c.credential.ensures i) ∷ []) c.printed-in-Lease.ensures

pub returns-in-WrappingToken : goal.returns-in-WrappingToken
unfolding names_of
returns-in-WrappingToken c =
    are_needed (λ own. own.items) c.printed-in-WrappingToken.result (names_of c.args.words.now) c.args.needs _ _
    c.in-WrappingToken.is (λ i. id (c.wrapping_token.ensures i) ∷ id (c.wrapping_accessor.ensures i) ∷ [])
    c.printed-in-WrappingToken.ensures
