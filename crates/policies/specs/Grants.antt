-- What a caller's policies grant (Vault's documentation, "Policies").
use Rattle.records.specs.Words.{List, [], Bool, option_and_then, unwrap_or, flat_map, list_any, Map, get, Text, Verb}
use Rattle.policies.specs.declared.capability.Capability.{Capability}
use Rattle.policies.specs.Allows.{allows}
use Rattle.policies.specs.Policies.{is_root}
use Rattle.policies.specs.PolicyTexts.{policy_of}
use Rattle.policies.specs.Rules.{Rule, Rules}

-- the rules of a policy; one that is not there has none
unfoldable pub rules_named : Map Text → Text → List Rule
rules_named policies name = unwrap_or (option_and_then policy_of (get policies name)) []

-- what the policies of these names say
unfoldable pub rules_of : Map Text → List Text → Verb → Rules
rules_of policies names v = record {
  verb = v;
  is_root = list_any is_root names;
  rules = flat_map (rules_named policies) names;
}

-- whether a caller with the policies of these names may do this at a path
abbrev pub grants : Map Text → List Text → Verb → Text → Capability → Bool
grants policies names v path c = allows (rules_of policies names v) path c
