-- The texts of policies (Vault's documentation, "Policies" and "/sys/policies"; that they are JSON alone, and without
-- parameters and segments `+`, is this project's).
use Rattle.std.specs.Prelude.{◌==◌, ◌-◌, ◌&&◌, ◌||◌, ◌∷◌, if◌then◌else◌, ℕ, List, [], length, take, Bool, true, false}
use Rattle.records.specs.Words.{Option, Some, None, option_map, option_and_then, is_some, Result, codes, list_any}
use Rattle.records.specs.Words.{slice_split, some_or, Forms, Text, same, Refusal, slash}
use Rattle.serde_json.specs.Data.{Data, Members, no_members, member}
use Rattle.serde_json.specs.Find.{as_str, as_object, get_member}
use Rattle.broker_types.specs.declared.refusal.Refusal.TheVariants as refusal
use Rattle.broker_types.specs.declared.refusal.Reason.TheVariants as reason
use Rattle.api_json.specs.Words.{tree, as_list}
use Rattle.policies.specs.declared.capability.Capability.{Capability}
use Rattle.policies.specs.declared.capability.Capability.TheVariants as may
use Rattle.policies.specs.declared.capability.Word.{Word}
use Rattle.policies.specs.declared.capability.Word.TheVariants.{Grant, Deny, Patch}
use Rattle.policies.specs.declared.pattern.Pattern.{Pattern}
use Rattle.policies.specs.declared.pattern.Pattern.TheVariants.{Exact, Prefix}
use Rattle.policies.specs.Rules.{Rule}

-- ---- capabilities

-- the capability of a name
abbrev pub capability_named : Text → Option Capability
capability_named s =
    if same s (codes "create") then Some may.Create
    else (if same s (codes "read") then Some may.Read
    else (if same s (codes "update") then Some may.Update
    else (if same s (codes "delete") then Some may.Delete
    else (if same s (codes "list") then Some may.List
    else (if same s (codes "sudo") then Some may.Sudo
    else None)))))

-- the word of a name: a capability, `deny` or `patch`
abbrev pub word_named : Text → Option Word
word_named s =
    if same s (codes "deny") then Some Deny
    else (if same s (codes "patch") then Some Patch
    else option_map Grant (capability_named s))

-- a text that is the name of a word
abbrev pub word : Data → Option Word
word d = option_and_then word_named (as_str d)

-- ---- patterns

-- a part between slashes that is `+` alone
abbrev pub has_plus : Text → Bool
has_plus s = list_any (λ part. same part (codes "+")) (slice_split (λ c. c == slash) s)

-- the character `*`
abbrev pub star : ℕ
star = 42

-- whether a text ends in `*`
abbrev pub ends_in_star : Text → Bool
ends_in_star [] = false
ends_in_star (x ∷ []) = x == star
ends_in_star (x ∷ y ∷ xs) = ends_in_star (y ∷ xs)

-- a `*` at the end asks for the prefix before it; elsewhere it stands for itself
unfoldable pub pattern_of : Text → Pattern
pattern_of s = if ends_in_star s then Prefix (take (length s - 1) s) else Exact s

-- ---- rules

abbrev pub is_capabilities : Text → Bool
is_capabilities name = same name (codes "capabilities")

-- whether each member is `capabilities`
abbrev pub are_capabilities : Members → Bool
are_capabilities no_members = true
are_capabilities (member name d ms) = is_capabilities name && are_capabilities ms

-- the words of a rule: the member `capabilities`, a list of words; there is no other member
unfoldable pub words_of : Members → Option (List Word)
words_of ms =
    if are_capabilities ms then option_and_then (as_list word) (get_member (codes "capabilities") ms) else None

-- the rule for a pattern without a segment `+`
abbrev pub rule_in : Text → Data → Option Rule
rule_in s d =
    if has_plus s then None
    else option_map (λ ws. record { pattern = pattern_of s; words = ws }) (option_and_then words_of (as_object d))

-- the rules by their patterns, if each is one
abbrev pub rules_in : Members → Option (List Rule)
rules_in no_members = Some []
rules_in (member s d ms) = option_and_then (λ r. option_map (λ rs. r ∷ rs) (rules_in ms)) (rule_in s d)

-- ---- policies

-- `path`, or `name`, which is ignored
abbrev pub is_known : Text → Bool
is_known name = same name (codes "path") || same name (codes "name")

-- whether each member is one of the two
abbrev pub are_known : Members → Bool
are_known no_members = true
are_known (member name d ms) = is_known name && are_known ms

-- the object that is the member `path`
unfoldable pub paths_of : Members → Option Members
paths_of ms = option_and_then as_object (get_member (codes "path") ms)

-- the rules of the member `path`; there is no other member but `name`
abbrev pub policy_in : Members → Option (List Rule)
policy_in ms = if are_known ms then option_and_then rules_in (paths_of ms) else None

-- the rules of a policy's text, if it is one: a JSON object without floats and of at most 127 levels
unfoldable pub policy_of : Text → Option (List Rule)
policy_of text = option_and_then policy_in (option_and_then as_object (tree text))

-- whether a text is a policy
abbrev pub is_policy : Text → Bool
is_policy text = is_some (policy_of text)

-- 400 `unsupported policy`
abbrev pub unsupported : Refusal
unsupported = refusal.BadRequest reason.UnsupportedPolicy

-- the rules of a policy's text; a text of another form is refused
abbrev pub policy_read : Text → Result (List Rule) Refusal
policy_read text = some_or unsupported (policy_of text)

-- what is kept: these texts are policies, and any test says what objects are
abbrev pub policy_forms : (Text → Bool) → Forms
policy_forms is_object = record { is_object = is_object; is_policy = is_policy }
