use Rattle.std.proofs.Common.{◌≡◌, ◌∷◌, ◌++◌, if◌then◌else◌, [], true, false, ap, sym, ◌∙◌}
use Rattle.records.specs.Words.{Text, RowKey}
use Rattle.token_tree.specs.Words.{Row, names_of_row, names_token, is_of_token}
use Rattle.token_tree.proofs.by_accessor.add_accessor.Goals as goal

pub returns-in_ok-push-in-Token-clause-found : goal.returns-in_ok-push-in-Token-clause-found
returns-in_ok-push-in-Token-clause-found c =
    let names = c.args.names.now.items in
    let one : names_token c.args.entry.now.1 ≡ true =
    ap (λ (e : RowKey × Row). names_token e.1) (sym c.entry.view_is) ∙ names_of_row _ _ c.in_ok-holder.ensures.exact.1
    ∙ ap is_of_token c.in-Token.is in
    let key : c.in_ok-copied-in-Token.field-0 ≡ c.args.entry.now.0.1 =
    c.in_ok-copied-in-Token.ensures ∙ c.as_str.ensures ∙ ap (λ (e : RowKey × Row). e.0.1) c.entry.view_is in
    c.in_ok-push-in-Token.ensures.items ∙ ap (λ (k : Text). names ++ k ∷ []) key
    ∙ ap (λ v. if v then names ++ c.args.entry.now.0.1 ∷ [] else names) (sym one)

pub returns-in-WrappingToken-clause-found : goal.returns-in-WrappingToken-clause-found
returns-in-WrappingToken-clause-found c =
    let names = c.args.names.now.items in
    let one : names_token c.args.entry.now.1 ≡ false =
    ap (λ (e : RowKey × Row). names_token e.1) (sym c.entry.view_is) ∙ names_of_row _ _ c.in_ok-holder.ensures.exact.1
    ∙ ap is_of_token c.in-WrappingToken.is in
    ap (λ v. if v then names ++ c.args.entry.now.0.1 ∷ [] else names) (sym one)
