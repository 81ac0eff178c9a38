-- What policies say (Vault's documentation, "Policies").
use Rattle.records.specs.Words.{List, Bool, Verb}
use Rattle.policies.specs.declared.capability.Word.{Word}
use Rattle.policies.specs.declared.pattern.Pattern.{Pattern}

-- what a policy says of a pattern
pub record Rule : Type 0 where
  pub pattern : Pattern
  pub words : List Word

-- what all policies of a caller say, and how the path is asked for
pub record Rules : Type 0 where
  pub verb : Verb
  -- whether the policy `root` is among them
  pub is_root : Bool
  pub rules : List Rule
