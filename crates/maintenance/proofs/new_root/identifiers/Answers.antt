use Rattle.std.proofs.Common.{◌≡◌, ◌∷◌, [], ap, ◌∙◌}
use Rattle.broker_model.specs.Words.{id}
use Rattle.broker_types.specs.Names.{token_word, accessor_word}
use Rattle.maintenance.proofs.new_root.identifiers.Goals as goal

pub returns : goal.returns
returns c =
    let token : c.in_ok-token.token ≡ id (token_word c.args.words.now) = c.in_ok-token.ensures.value
    ∙ ap id c.token.ensures in
    let accessor : c.in_ok-accessor.accessor ≡ id (accessor_word c.args.words.now) = c.in_ok-accessor.ensures.value
    ∙ ap id c.accessor.ensures in
    c.in_ok-vec.ensures.items ∙ (λ i. token i ∷ accessor i ∷ [])
