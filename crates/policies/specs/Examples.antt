-- Examples of policies: what they allow, and what texts are read as (this project's, after Vault's documentation,
-- "Policies").
use Rattle.std.specs.Prelude.{◌≡◌, ◌∷◌, ◌++◌, List, [], codes, Bool, true, false, Some, None}
use Rattle.records.specs.Words.{Text, Verb}
use Rattle.broker_types.specs.declared.ask.Verb.TheVariants as verb
use Rattle.policies.specs.declared.capability.Capability.{Capability}
use Rattle.policies.specs.declared.capability.Capability.TheVariants as may
use Rattle.policies.specs.declared.capability.Word.{Word}
use Rattle.policies.specs.declared.capability.Word.TheVariants.{Grant, Deny}
use Rattle.policies.specs.Allows.{allows}
use Rattle.policies.specs.PolicyTexts.{pattern_of, policy_of}
use Rattle.policies.specs.Rules.{Rule}

-- what a policy says of a pattern
abbrev on : Text → List Word → Rule
on pattern words = record { pattern = pattern_of pattern; words = words }

-- whether a caller with these rules, and without `root`, may do this at a path
abbrev may_do : List Rule → Verb → Text → Capability → Bool
may_do rules v path c = allows (record { verb = v; is_root = false; rules = rules }) path c

abbrev all_but_sudo : List Word
all_but_sudo =
    Grant may.Create ∷ Grant may.Read ∷ Grant may.Update ∷ Grant may.Delete ∷ Grant may.List ∷ []

-- ---- one secret is denied

-- everything but one secret
abbrev all_but_one : List Rule
all_but_one = on (codes "*") all_but_sudo ∷ on (codes "secret/data/x") (Deny ∷ []) ∷ []

-- and its text
abbrev all_but_one_text : Text
all_but_one_text =
    codes "{\"path\":{\"*\":{\"capabilities\":[\"create\",\"read\",\"update\",\"delete\",\"list\"]},"
    ++ codes "\"secret/data/x\":{\"capabilities\":[\"deny\"]}}}"

-- the text is read as these rules, which allow the other secrets alone, and no `sudo`
pub record DeniesOne : Type 0 where
  pub text : policy_of all_but_one_text ≡ Some all_but_one
  pub denied : may_do all_but_one verb.Get (codes "secret/data/x") may.Read ≡ false
  pub beside : may_do all_but_one verb.Get (codes "secret/data/y") may.Read ≡ true
  pub no_sudo : may_do all_but_one verb.List (codes "auth/token/accessors") may.Sudo ≡ false

-- ---- one folder is denied

-- all folders but one
abbrev teams : List Rule
teams = on (codes "secret/metadata/*") (Grant may.List ∷ []) ∷ on (codes "secret/metadata/team/*") (Deny ∷ []) ∷ []

-- and the folder by its own name
abbrev named_team : List Rule
named_team = on (codes "secret/metadata/team") (Grant may.List ∷ []) ∷ teams

-- LIST tests the path and a slash, so the prefix of what is in a folder decides on the folder too, unless the folder
-- has an exact pattern
pub record ListsFolders : Type 0 where
  pub denied : may_do teams verb.List (codes "secret/metadata/team") may.List ≡ false
  pub beside : may_do teams verb.List (codes "secret/metadata") may.List ≡ true
  pub named : may_do named_team verb.List (codes "secret/metadata/team") may.List ≡ true

-- a rule that says one word
abbrev one : Text → Word → Rule
one pattern word = on pattern (word ∷ [])

-- LIST of `a` tries `a/`, then `a`, then the prefixes of `a/`; any other request is about the path alone
pub record ListsInOrder : Type 0 where
  pub folder :
      may_do (one (codes "a/*") Deny ∷ one (codes "a") Deny ∷ one (codes "a/") (Grant may.List) ∷ []) verb.List
      (codes "a") may.List ≡ true
  pub path :
      may_do (one (codes "a/*") Deny ∷ one (codes "a") (Grant may.List) ∷ []) verb.List
      (codes "a") may.List ≡ true
  pub prefix : may_do (one (codes "a/*") (Grant may.List) ∷ []) verb.List (codes "a") may.List ≡ true
  pub denied :
      may_do (one (codes "a") (Grant may.List) ∷ one (codes "a/") Deny ∷ []) verb.List
      (codes "a") may.List ≡ false
  pub no_read : may_do (one (codes "a/") (Grant may.Read) ∷ []) verb.Get (codes "a") may.Read ≡ false

-- ---- prefixes

-- every path
abbrev everything : List Rule
everything = one (codes "*") (Grant may.Read) ∷ []

-- what is in a folder, but for one path
abbrev folder_but_one : List Rule
folder_but_one = one (codes "a/*") (Grant may.Read) ∷ one (codes "a/b") Deny ∷ []

-- A `*` alone is about every path, also the empty one. A prefix is about what is in a folder, and not about the folder.
-- An exact pattern is about its path alone, so that the prefix decides on what is below a path that is denied.
pub record AllowsPrefixes : Type 0 where
  pub any : may_do everything verb.Get (codes "a/b") may.Read ≡ true
  pub empty : may_do everything verb.Get [] may.Read ≡ true
  pub folder : may_do folder_but_one verb.Get (codes "a") may.Read ≡ false
  pub beside : may_do folder_but_one verb.Get (codes "a/c") may.Read ≡ true
  pub denied : may_do folder_but_one verb.Get (codes "a/b") may.Read ≡ false
  pub below : may_do folder_but_one verb.Get (codes "a/b/c") may.Read ≡ true

-- ---- others

-- secrets may be made, and not changed
abbrev only_create : List Rule
only_create = on (codes "secret/data/*") (Grant may.Create ∷ []) ∷ []

-- a path that ends in `*`
abbrev starred : List Rule
starred = on (codes "a*") (Grant may.Read ∷ []) ∷ on (codes "a*/*") (Deny ∷ []) ∷ []

-- `create` is not `update`, and a pattern that ends in `*` is a prefix, also for a path that ends in `*`
pub record Allow : Type 0 where
  pub create : may_do only_create verb.Write (codes "secret/data/x") may.Create ≡ true
  pub update : may_do only_create verb.Write (codes "secret/data/x") may.Update ≡ false
  pub star : may_do starred verb.Get (codes "a*") may.Read ≡ true
  pub star_list : may_do starred verb.List (codes "a*") may.List ≡ false

-- another capability, and a segment `+`, are refused
pub record Refuses : Type 0 where
  pub unknown : policy_of (codes "{\"path\":{\"a*\":{\"capabilities\":[\"read\",\"run\"]}}}") ≡ None
  pub plus : policy_of (codes "{\"path\":{\"a/+/b\":{\"capabilities\":[\"read\"]}}}") ≡ None
