-- What the row of a token tells of a choice.
use Rattle.std.proofs.Common.{◌≡◌, false, Option, Some, None, option_map, refl, ◌∙◌, ap}
use Rattle.broker_model.specs.Words.{option_map_or, Broker, Text, get, Token, TokenEntry, token_entry}
use Rattle.maintenance.specs.Choosing.{Choice, is_chosen_at}

-- a token is chosen by what its row says
pub told_at : (p : Choice) (b : Broker) (t : Text) (found : Option TokenEntry)
    → found ≡ option_map token_entry (get b.tokens t) → option_map_or (p t) found false ≡ is_chosen_at p b t
told_at p b t found is = ap (λ o. option_map_or (p t) o false) is ∙ inner (get b.tokens t)
  where
    inner : (o : Option Token) → option_map_or (p t) (option_map token_entry o) false
        ≡ option_map_or (λ (x : Token). p t (token_entry x)) o false
    inner None = refl
    inner (Some x) = refl
