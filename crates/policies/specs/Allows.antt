-- Which capabilities rules allow at a path (Vault's documentation, "Policies", policy syntax and capabilities).
use Rattle.std.specs.Prelude.{◌&&◌, ◌||◌, List, Bool, false, not, Option}
use Rattle.records.specs.Words.{list_any, option_map_or, Text}
use Rattle.std.specs.List.{find}
use Rattle.policies.specs.declared.capability.Capability.{Capability}
use Rattle.policies.specs.declared.capability.Word.{Word}
use Rattle.policies.specs.declared.pattern.Pattern.{Pattern}
use Rattle.policies.specs.CapabilityWords.{is_grant, is_deny}
use Rattle.policies.specs.Patterns.{same_pattern, tried}
use Rattle.policies.specs.Rules.{Rule, Rules}

-- whether some rule is about the pattern
abbrev pub is_named : List Rule → Pattern → Bool
is_named rules p = list_any (λ (r : Rule). same_pattern r.pattern p) rules

-- the one pattern that counts: of those that match the path, the first one tried that some rule is about
abbrev pub chosen : Rules → Text → Option Pattern
chosen rs path = find (is_named rs.rules) (tried rs.verb path)

-- whether some rule about the pattern says such a word
abbrev pub is_said : (Word → Bool) → List Rule → Pattern → Bool
is_said word rules p = list_any (λ (r : Rule). same_pattern r.pattern p && list_any word r.words) rules

-- all that is said of the pattern is united, and `deny` wins
abbrev pub is_granted : Capability → List Rule → Pattern → Bool
is_granted c rules p = is_said (is_grant c) rules p && not (is_said is_deny rules p)

-- Whether the capability is allowed at the path: the chosen pattern grants it. Where no pattern is chosen nothing is
-- allowed, and `root` allows everything.
unfoldable pub allows : Rules → Text → Capability → Bool
allows rs path c = rs.is_root || option_map_or (is_granted c rs.rules) (chosen rs path) false
