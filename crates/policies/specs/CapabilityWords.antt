-- What a policy says of a pattern: capabilities, and the words `deny` and `patch` (Vault's documentation, "Policies",
-- capabilities; that `patch` grants nothing is this project's).
use Rattle.records.specs.Words.{Bool, true, false}
use Rattle.policies.specs.declared.capability.Capability.{Capability}
use Rattle.policies.specs.declared.capability.Capability.TheVariants.{Create, Read, Update, Delete, List, Sudo}
use Rattle.policies.specs.declared.capability.Word.{Word}
use Rattle.policies.specs.declared.capability.Word.TheVariants.{Grant, Deny, Patch}

-- whether two capabilities are one
abbrev pub same_capability : Capability → Capability → Bool
same_capability Create Create = true
same_capability Read Read = true
same_capability Update Update = true
same_capability Delete Delete = true
same_capability List List = true
same_capability Sudo Sudo = true
same_capability _ _ = false

-- whether a word grants a capability; `patch` grants none
abbrev pub is_grant : Capability → Word → Bool
is_grant c (Grant d) = same_capability d c
is_grant c Deny = false
is_grant c Patch = false

-- whether a word is `deny`
abbrev pub is_deny : Word → Bool
is_deny (Grant c) = false
is_deny Deny = true
is_deny Patch = false
