-- What a caller may ask (Vault's documentation, "Policies").
use Rattle.std.specs.Prelude.{◌||◌, ◌&&◌, Bool, false, not, Option, Some, None}
use Rattle.records.specs.Words.{option_map_or, Text, get, Token, Broker, Verb}
use Rattle.mounts.specs.Words.{asks_sudo}
use Rattle.policies.specs.Words.{allows, rules_of, Rules}
use Rattle.policies.specs.declared.capability.Capability.{Capability}
use Rattle.policies.specs.declared.capability.Capability.TheVariants.{Sudo}
use Rattle.broker_model.specs.Capabilities.{asked}

-- Whether rules allow the capability at a path, and `sudo` as well if the path asks for it ("Policies", root-protected
-- API endpoints).
abbrev pub may : Rules → Text → Capability → Bool
may rules path c = allows rules path c && (not (asks_sudo path) || allows rules path Sudo)

-- whether the token x of the caller c may ask with a verb at a path: its policies decide
abbrev pub may_ask : Broker → Text → Verb → Text → Token → Bool
may_ask b c verb path x = may (rules_of b.policies x.policies verb) path (asked b c verb path)

-- whether a caller may ask; without a caller nothing is allowed
abbrev pub permits : Broker → Option Text → Verb → Text → Bool
permits b None verb path = false
permits b (Some c) verb path = option_map_or (may_ask b c verb path) (get b.tokens c) false
