use Rattle.std.proofs.Common.{◌∷◌, All, [], ap, sym, subst, ◌∙◌}
use Rattle.broker_model.specs.Words.{All-cons, All-nil, id, IsIdentifier}
use Rattle.broker_rows.proofs.identifiers.printed.Goals as goal

pub returns : goal.returns
returns c = record {
  are = c.in_ok-vec.ensures.items ∙ ap (λ t. t ∷ c.in_ok-second.second ∷ []) c.in_ok-first.ensures.value
      ∙ ap (λ t. id c.args.first ∷ t ∷ []) c.in_ok-second.ensures.value;
  good = subst (All IsIdentifier) (sym c.in_ok-vec.ensures.items)
      (All-cons IsIdentifier c.in_ok-first.first (c.in_ok-second.second ∷ []) c.in_ok-first.ensures.good
      (All-cons IsIdentifier c.in_ok-second.second [] c.in_ok-second.ensures.good (All-nil IsIdentifier)));
}
