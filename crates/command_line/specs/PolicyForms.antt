-- Which texts a server takes as policies (Vault's documentation, "Policies"; the form is this project's).
use Rattle.std.specs.Prelude.{◌==◌, ◌&&◌, ◌||◌, codes, bytes_eq, Bool, true, false, not}
use Rattle.std.specs.Prelude.{Option, Some, None, option_and_then}
use Rattle.std.specs.List.{list_any, slice_split}
use Rattle.broker_types.specs.Words.{Text}
use Rattle.serde_json.specs.Data.{Data, Items, no_items, item, Members, no_members, member}
use Rattle.serde_json.specs.Find.{get, as_str, as_array, as_object}
use Rattle.serde_json.specs.Read.{read}
use Rattle.serde_json.specs.Written.{has_float}

-- there is a value, and it passes
abbrev pub passes : {A : Type 0} → (A → Bool) → Option A → Bool
passes test None = false
passes test (Some x) = test x

-- ---- rules

-- a text that is the name of a capability, `deny` or `patch`
abbrev pub is_capability_name : Text → Bool
is_capability_name s =
    bytes_eq s (codes "create") || bytes_eq s (codes "read") || bytes_eq s (codes "update")
    || bytes_eq s (codes "delete") || bytes_eq s (codes "list") || bytes_eq s (codes "sudo")
    || bytes_eq s (codes "deny") || bytes_eq s (codes "patch")

abbrev pub is_capability : Data → Bool
is_capability d = passes is_capability_name (as_str d)

abbrev pub are_capabilities : Items → Bool
are_capabilities no_items = true
are_capabilities (item d ds) = is_capability d && are_capabilities ds

-- whether each member is `capabilities`
abbrev pub are_rule_members : Members → Bool
are_rule_members no_members = true
are_rule_members (member name d ms) = bytes_eq name (codes "capabilities") && are_rule_members ms

-- an object with the member `capabilities` alone, an array of names
abbrev pub is_rule : Data → Bool
is_rule d =
    passes are_rule_members (as_object d)
    && passes are_capabilities (option_and_then as_array (get (codes "capabilities") d))

-- a part between slashes that is `+` alone
abbrev pub has_plus : Text → Bool
has_plus s = list_any (λ part. bytes_eq part (codes "+")) (slice_split (λ c. c == 47) s)

-- patterns without such a part, each with a rule
abbrev pub are_rules : Members → Bool
are_rules no_members = true
are_rules (member pattern d ms) = not (has_plus pattern) && is_rule d && are_rules ms

-- ---- policies

-- whether each member is `path` or `name`
abbrev pub are_policy_members : Members → Bool
are_policy_members no_members = true
are_policy_members (member name d ms) =
    (bytes_eq name (codes "path") || bytes_eq name (codes "name")) && are_policy_members ms

-- an object without floats: the member `path`, the rules by their patterns, and at most `name` beside it
abbrev pub is_policy : Data → Bool
is_policy d =
    passes are_policy_members (as_object d)
    && passes are_rules (option_and_then as_object (get (codes "path") d))
    && not (has_float d)

-- a JSON text of a policy
abbrev pub is_policy_text : Text → Bool
is_policy_text text = passes is_policy (read text)
