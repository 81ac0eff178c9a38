-- How early a pattern is tried, as a number; what is known of the first pattern tried, rule by rule (this project's).
use Rattle.std.specs.Prelude.{◌+◌, ◌==◌, ◌∷◌, ◌||◌, ◌&&◌, if◌then◌else◌, ℕ, nat_lt, nat_eq, List, [], not, length, Bool}
use Rattle.records.specs.Words.{list_any, starts_with, Text, same, Verb}
use Rattle.broker_types.specs.declared.ask.Verb.TheVariants as verb
use Rattle.policies.specs.declared.allowing.Best.{Best}
use Rattle.policies.specs.declared.capability.Capability.{Capability}
use Rattle.policies.specs.declared.pattern.Pattern.{Pattern}
use Rattle.policies.specs.CapabilityWords.{is_grant, is_deny}
use Rattle.policies.specs.Patterns.{same_pattern, with_slash, tried}
use Rattle.policies.specs.Rules.{Rule}

-- how many patterns are left when this one is tried; 0 if it is not tried
abbrev pub place : List Pattern → Pattern → ℕ
place [] p = 0
place (t ∷ ts) p = if same_pattern p t then length ts + 1 else place ts p

-- the text that prefixes are tested against
abbrev pub tried_text : Verb → Text → Text
tried_text verb.List path = with_slash path
tried_text _ path = path

-- the place of an exact pattern
abbrev pub exact_place : Verb → Text → Text → ℕ
exact_place verb.List path text =
    if same text (with_slash path) then length path + 4 else (if same text path then length path + 3 else 0)
exact_place _ path text = if same text path then length path + 2 else 0

-- the place of a prefix
abbrev pub prefix_place : Verb → Text → Text → ℕ
prefix_place v path text = if starts_with nat_eq (tried_text v path) text then length text + 1 else 0

-- what is known with one rule more, whose pattern has the place n
unfoldable pub better : Capability → Best → ℕ → Rule → Best
better c b n r =
    if nat_lt b.place n
    then record { place = n; granted = list_any (is_grant c) r.words; denied = list_any is_deny r.words }
    else (if n == b.place
    then record {
      place = n;
      granted = b.granted || list_any (is_grant c) r.words;
      denied = b.denied || list_any is_deny r.words;
    }
    else b)

-- the same, from the rule's pattern
abbrev pub step : Verb → Text → Capability → Best → Rule → Best
step v path c b r = better c b (place (tried v path) r.pattern) r

-- some pattern that is tried has a rule, and what is said of the first one grants the capability
abbrev pub best_allows : Best → Bool
best_allows b = nat_lt 0 b.place && (b.granted && not b.denied)
