-- One more root token (this project's definition; Vault's documentation, "Tokens", root tokens).
use Rattle.std.specs.Prelude.{◌≡◌, ◌∷◌, ℕ, List, [], Option, Some, None, ⊤}
use Rattle.std.specs.List.{find}
use Rattle.broker_model.specs.Words.{Broker, Map, Text, at_moment, id, token_text, root_token, are_new, created, Rows}
use Rattle.broker_types.specs.Names.{token_word, accessor_word}
use Rattle.broker_types.specs.declared.words.Words.{Words}
use Rattle.broker_rows.specs.Representing.{Represents}

-- the identifiers of a root token and of its accessor
abbrev pub root_identifiers : Words → List Text
root_identifiers words = id (token_word words) ∷ id (accessor_word words) ∷ []

-- the text of the root token
abbrev pub root_text : Words → Text
root_text words = token_text (id (token_word words))

-- the first of the draws of which both identifiers are new, if there is one
abbrev pub first_new : Map ⊤ → List Words → Option Words
first_new used draws = find (λ words. are_new used (root_identifiers words)) draws

-- the broker at the moment with one more root token, of which both identifiers have been given out
abbrev pub with_new_root : Broker → ℕ → Words → Broker
with_new_root b moment words =
    let c = at_moment b moment in
    created c (root_text words) (root_token c.clock (id (accessor_word words)))

-- The rows are those of the broker with one more root token of this text, by the first draw that is new; or those of
-- the broker as it was, if none is.
abbrev pub MakesRoot : Broker → ℕ → List Words → Rows → Option Text → Type 0
MakesRoot b moment draws rows None = (first_new b.used draws ≡ None) × Represents None rows b
MakesRoot b moment draws rows (Some t) =
    (words : Words) × (first_new b.used draws ≡ Some words) × (t ≡ root_text words)
    × Represents None rows (with_new_root b moment words)
