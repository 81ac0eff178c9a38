-- Which tokens are revoked by maintenance (this project's definition).
use Rattle.std.specs.Prelude.{◌&&◌, List, Bool, false, not, filter, codes, is_none}
use Rattle.broker_model.specs.Words.{option_map_or, Broker, Text, same, get, keys, has, Token, TokenEntry, token_entry}
use Rattle.maintenance.specs.Maintained.{revoked_each}
use Rattle.maintenance.specs.declared.choosing.Chosen.{Chosen}
use Rattle.maintenance.specs.declared.choosing.Chosen.TheVariants.{OtherRoots, AllButLastingRoots}

-- which tokens, by their texts and by what their rows say
abbrev pub Choice : Type 0
Choice = Text → TokenEntry → Bool

-- whether it has the policy `root`
abbrev pub has_root : TokenEntry → Bool
has_root x = has x.policies (codes "root")

-- another token than own with the policy `root`
abbrev pub is_other_root : Text → Choice
is_other_root own t x = has_root x && not (same t own)

-- any but those with the policy `root` and without an end
abbrev pub is_no_lasting_root : Choice
is_no_lasting_root t x = not (has_root x && is_none x.ends)

-- the choice of the code
abbrev pub is_chosen : Chosen → Choice
is_chosen (OtherRoots own) = is_other_root own.now
is_chosen AllButLastingRoots = is_no_lasting_root

-- whether t is a token of the broker, and chosen
abbrev pub is_chosen_at : Choice → Broker → Text → Bool
is_chosen_at p b t = option_map_or (λ (x : Token). p t (token_entry x)) (get b.tokens t) false

-- the tokens that are chosen, in the order of their bytes
abbrev pub tokens_where : Choice → Broker → List Text
tokens_where p b = filter (is_chosen_at p b) (keys b.tokens)

-- the broker without them: each was revoked as by `auth/token/revoke-orphan`, so that its children have no parent
-- (Vault's documentation, "Tokens", orphan tokens)
abbrev pub without_where : Choice → Broker → Broker
without_where p b = revoked_each (tokens_where p b) b
