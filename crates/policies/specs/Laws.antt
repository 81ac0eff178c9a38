-- Laws of what policies grant, and of policies that are set and deleted, as statements (this project's; Vault's
-- documentation, "Policies").
use Rattle.std.specs.Prelude.{◌≡◌, ◌≢◌, ◌≤◌, ◌<◌, ◌^◌, ◌⊎◌, ◌∷◌, nat_eq, List, [], length, Bool, true, false, Option}
use Rattle.records.specs.Words.{Some, None, Ok, is_some, IsPermutation, list_any, starts_with, Broker, Evolves}
use Rattle.records.specs.Words.{default_policy, Map, get, Sound, Text, Verb, has, of_policies, Tells, Table}
use Rattle.broker_types.specs.declared.ask.Verb.TheVariants as verb
use Rattle.policies.specs.declared.capability.Capability.{Capability}
use Rattle.policies.specs.declared.capability.Word.{Word}
use Rattle.policies.specs.declared.pattern.Pattern.{Pattern}
use Rattle.policies.specs.declared.pattern.Pattern.TheVariants.{Exact, Prefix}
use Rattle.policies.specs.Allows.{is_named, chosen, is_said}
use Rattle.policies.specs.Grants.{rules_named, rules_of, grants}
use Rattle.policies.specs.Patterns.{with_slash}
use Rattle.policies.specs.PatternPlaces.{tried_text}
use Rattle.policies.specs.Policies.{is_root, set, deleted}
use Rattle.policies.specs.PolicyRows.{ArePolicies}
use Rattle.policies.specs.PolicyTexts.{is_policy, policy_forms}
use Rattle.policies.specs.Rules.{Rules}
use Rattle.policies.specs.CapabilityWords.{is_grant, is_deny}

-- ---- what is granted

-- a policy of the caller says such a word for the pattern
pub record Says (policies : Map Text) (names : List Text) (word : Word → Bool) (pattern : Pattern) : Type 0 where
  pub name : Text
  pub of_caller : has names name ≡ true
  pub said : is_said word (rules_named policies name) pattern ≡ true

-- a policy of the caller names the capability for the chosen pattern, and none says `deny` for that pattern
pub record IsGranted (policies : Map Text) (names : List Text) (v : Verb) (path : Text) (c : Capability)
    : Type 0 where
  pub pattern : Pattern
  pub is_chosen : chosen (rules_of policies names v) path ≡ Some pattern
  pub said : Says policies names (is_grant c) pattern
  pub not_denied : Says policies names is_deny pattern → ⊥

-- what a caller without the policy `root` may do, is granted
abbrev pub OnlyWhatIsGranted : Type 0
OnlyWhatIsGranted =
    (policies : Map Text) (names : List Text) (v : Verb) (path : Text) (c : Capability)
    → list_any is_root names ≡ false → grants policies names v path c ≡ true → IsGranted policies names v path c

-- and what is granted, each caller may do
abbrev pub AllThatIsGranted : Type 0
AllThatIsGranted =
    (policies : Map Text) (names : List Text) (v : Verb) (path : Text) (c : Capability)
    → IsGranted policies names v path c → grants policies names v path c ≡ true

-- a caller with the policy `root` may do everything
abbrev pub RootMayDoAll : Type 0
RootMayDoAll =
    (policies : Map Text) (names : List Text) (v : Verb) (path : Text) (c : Capability)
    → list_any is_root names ≡ true → grants policies names v path c ≡ true

-- ---- which policies count

-- without policies nothing is allowed
abbrev pub NothingWithoutPolicies : Type 0
NothingWithoutPolicies =
    (policies : Map Text) (v : Verb) (path : Text) (c : Capability) → grants policies [] v path c ≡ false

-- the order of a caller's policies does not matter
abbrev pub OrderDoesNotMatter : Type 0
OrderDoesNotMatter =
    (policies : Map Text) (names others : List Text) (v : Verb) (path : Text) (c : Capability)
    → IsPermutation names others → grants policies names v path c ≡ grants policies others v path c

-- policies that a caller does not have do not matter
abbrev pub OthersDoNotMatter : Type 0
OthersDoNotMatter =
    (policies changed : Map Text) (names : List Text) (v : Verb) (path : Text) (c : Capability)
    → ((name : Text) → has names name ≡ true → get changed name ≡ get policies name)
    → grants changed names v path c ≡ grants policies names v path c

-- a policy that is not there grants nothing, unless it is `root`
abbrev pub AbsentGrantNothing : Type 0
AbsentGrantNothing =
    (policies : Map Text) (name : Text) (names : List Text) (v : Verb) (path : Text) (c : Capability)
    → get policies name ≡ None → is_root name ≡ false
    → grants policies (name ∷ names) v path c ≡ grants policies names v path c

-- ---- which pattern is chosen

-- the exact pattern comes first
abbrev pub ExactComesFirst : Type 0
ExactComesFirst =
    (rs : Rules) (path : Text) → rs.verb ≢ verb.List → is_named rs.rules (Exact path) ≡ true
    → chosen rs path ≡ Some (Exact path)

-- for LIST the exact pattern of the path and a slash comes first
abbrev pub FolderComesFirst : Type 0
FolderComesFirst =
    (rs : Rules) (path : Text) → rs.verb ≡ verb.List → is_named rs.rules (Exact (with_slash path)) ≡ true
    → chosen rs path ≡ Some (Exact (with_slash path))

-- and then the exact pattern of the path
abbrev pub ThenThePath : Type 0
ThenThePath =
    (rs : Rules) (path : Text) → rs.verb ≡ verb.List → is_named rs.rules (Exact (with_slash path)) ≡ false
    → is_named rs.rules (Exact path) ≡ true → chosen rs path ≡ Some (Exact path)

-- the tested text begins with the prefix, and no rule is about a longer prefix of it
pub record IsLongest (rs : Rules) (path prefix : Text) : Type 0 where
  pub matches : starts_with nat_eq (tried_text rs.verb path) prefix ≡ true
  pub longest : (other : Text) → is_named rs.rules (Prefix other) ≡ true
      → starts_with nat_eq (tried_text rs.verb path) other ≡ true → length other ≤ length prefix

-- a chosen prefix is the longest
abbrev pub PrefixIsLongest : Type 0
PrefixIsLongest = (rs : Rules) (path prefix : Text) → chosen rs path ≡ Some (Prefix prefix) → IsLongest rs path prefix

-- a rule is about what is chosen
abbrev pub ChosenIsNamed : Type 0
ChosenIsNamed =
    (rs : Rules) (path : Text) (p : Pattern) → chosen rs path ≡ Some p → is_named rs.rules p ≡ true

-- where a rule is about a prefix of the tested text, something is chosen
abbrev pub PrefixIsFound : Type 0
PrefixIsFound =
    (rs : Rules) (path prefix : Text) → is_named rs.rules (Prefix prefix) ≡ true
    → starts_with nat_eq (tried_text rs.verb path) prefix ≡ true → is_some (chosen rs path) ≡ true

-- an exact pattern is chosen only if it is the path, or for LIST the path and a slash
abbrev pub ExactIsThePath : Type 0
ExactIsThePath =
    (rs : Rules) (path text : Text) → chosen rs path ≡ Some (Exact text)
    → (text ≡ path) ⊎ ((rs.verb ≡ verb.List) × (text ≡ with_slash path))

-- ---- policies that are set and deleted

-- a policy that is set leaves a sound broker sound
abbrev pub SetKeepsSoundness : Type 0
SetKeepsSoundness =
    (is_object : Text → Bool) (who : Option Text) (b : Broker) (name text : Text) (next : Map Text)
    → Sound (policy_forms is_object) who b → length text < 2 ^ 32 → set b.policies name text ≡ Ok next
    → Sound (policy_forms is_object) who (record b { policies = next })

-- and so does a policy that is deleted
abbrev pub DeleteKeepsSoundness : Type 0
DeleteKeepsSoundness =
    (is_object : Text → Bool) (who : Option Text) (b : Broker) (name : Text) (next : Map Text)
    → Sound (policy_forms is_object) who b → deleted b.policies name ≡ Ok next
    → Sound (policy_forms is_object) who (record b { policies = next })

-- any policies let a broker evolve
abbrev pub PoliciesEvolve : Type 0
PoliciesEvolve = (b : Broker) (next : Map Text) → Evolves b (record b { policies = next })

-- the policy of the start is one
abbrev pub FirstPolicyIsRead : Type 0
FirstPolicyIsRead = is_policy default_policy ≡ true

-- the rows of policies are those of a broker exactly if they are those of its policies
abbrev pub PoliciesAreTold : Type 0
PoliciesAreTold =
    (rows : Table) (b : Broker)
    → (Tells of_policies rows b → ArePolicies rows b.policies)
    × (ArePolicies rows b.policies → Tells of_policies rows b)
