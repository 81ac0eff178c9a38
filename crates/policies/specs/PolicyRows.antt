-- Policies as rows: each has one, at its name (this project's row format).
use Rattle.std.specs.Prelude.{◌≡◌, ◌∷◌, if◌then◌else◌, List, [], false, Option, Some, None, option_map, Result, Ok, All}
use Rattle.records.specs.Words.{is_lt, Map, get, ◌>>=◌, IsShortText, Text, text_cmp, Refusal, IsSomeIn, policy_row}
use Rattle.records.specs.Words.{Table, with_row, without_row}
use Rattle.records.specs.declared.kind.Kind.TheVariants as kind
use Rattle.policies.specs.Policies as policies
use Rattle.policies.specs.Policies.{is_root, root, default}
use Rattle.policies.specs.PolicyTexts.{policy_of}
use Rattle.policies.specs.Rules.{Rule}

-- the row at a name is that of the policy with the text, or there is none
abbrev pub IsPolicyAt : Table → Text → Option Text → Type 0
IsPolicyAt rows name text = rows kind.Policy name ≡ option_map policy_row text

-- the rows of policies are those of the map
abbrev pub ArePolicies : Table → Map Text → Type 0
ArePolicies rows policies = (name : Text) → IsPolicyAt rows name (get policies name)

-- the rows at these names are those of the map
abbrev pub ArePoliciesAt : Table → List Text → Map Text → Type 0
ArePoliciesAt rows names policies = All (λ name. IsPolicyAt rows name (get policies name)) names

-- ---- what is written

-- the rows with a policy set
abbrev pub set : Table → Text → Text → Result Table Refusal
set rows name text = do
  may ← policies.may_set name text
  Ok (with_row rows kind.Policy name (policy_row text))

-- the rows with a policy deleted
abbrev pub deleted : Table → Text → Result Table Refusal
deleted rows name = do
  may ← policies.may_delete name
  Ok (without_row rows kind.Policy name)

-- ---- what is read

-- what is at a name is known: the row is that of the policy, or there is none; `root` needs no row
abbrev pub IsKnownAt : Table → Text → Option Text → Type 0
IsKnownAt rows name text = is_root name ≡ false → IsPolicyAt rows name text

-- the row at a name is that of no policy, and the name is not `root`
abbrev pub IsDamagedAt : Table → Text → Type 0
IsDamagedAt rows name = (text : Option Text) → IsSomeIn IsShortText text → IsKnownAt rows name text → ⊥

-- the rules of a text that is kept; a policy that is not there has none
abbrev pub kept_rules : Option Text → Option (List Rule)
kept_rules None = Some []
kept_rules (Some text) = policy_of text

-- the row at a name gives these rules: those of its text, or none if there is no row
pub record GivesRules (rows : Table) (name : Text) (rules : List Rule) : Type 0 where
  pub text : Option Text
  pub short : IsSomeIn IsShortText text
  pub row : IsPolicyAt rows name text
  pub read : kept_rules text ≡ Some rules

-- the row at a name can be read, and its text is a policy; or there is no row
abbrev pub IsReadable : Table → Text → Type 0
IsReadable rows name = (rules : List Rule) × GivesRules rows name rules

-- the row at a name gives no rules: it is there, and is not that of a policy
abbrev pub IsUnreadable : Table → Text → Type 0
IsUnreadable rows name = (rules : List Rule) → GivesRules rows name rules → ⊥

-- a name put in its place among names in the order of their bytes, if it is not there
abbrev pub with_name : Text → List Text → List Text
with_name n [] = n ∷ []
with_name n (x ∷ xs) =
    if is_lt (text_cmp n x) then n ∷ x ∷ xs
    else (if is_lt (text_cmp x n) then x ∷ with_name n xs else x ∷ xs)

-- names in the order of their bytes, with those that are always there
abbrev pub all_names : List Text → List Text
all_names names = with_name root (with_name default names)
