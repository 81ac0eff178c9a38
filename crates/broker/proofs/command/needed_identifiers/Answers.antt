use Rattle.std.proofs.Common.{◌∷◌, ◌≡◌, List, true, sym, ap, ◌∙◌, subst}
use Rattle.broker_model.specs.Words.{id, names_of, IsIdentifier, Text, is_wrapped, needed_by}
use Rattle.broker_rows.specs.Words.{ArePrinted}
use Rattle.broker.specs.Meant.{meant}
use Rattle.broker.proofs.NeededIdentifiers.{needed_printed}
use Rattle.broker.proofs.command.needed_identifiers.Goals as goal

pub returns : goal.returns
unfolding names_of
returns c =
    let ask = c.args.ask.now in
    let names = names_of c.args.words.now in
    let command = meant c.args.command.now in
    let own = c.in_ok-needed.needed.items in
    let wraps : is_wrapped ask command ≡ true = sym c.is_wrapped.ensures ∙ c.if-not-is_wrapped.false in
    let printed = subst (ArePrinted own) (c.needs.ensures names) c.in_ok-needed.ensures in
    let token = c.in_ok-token.ensures in
    let accessor = c.in_ok-accessor.ensures in
    let token_is = token.value ∙ ap id c.wrapping_token.ensures in
    let accessor_is = accessor.value ∙ ap id c.wrapping_accessor.ensures in
    let items : c.insert-2.new.self.items ≡ names.wrapping_token ∷ names.wrapping_accessor ∷ own =
    c.in_ok-insert-2.ensures.items ∙ ap (λ (rest : List Text). c.in_ok-token.token ∷ rest) c.in_ok-insert.ensures.items
    ∙ (λ i. token_is i ∷ accessor_is i ∷ own) in
    subst (λ (needed : List Text). ArePrinted needed (needed_by ask names command)) (sym items)
    (needed_printed ask names command wraps own printed (subst IsIdentifier token_is token.good)
    (subst IsIdentifier accessor_is accessor.good))
