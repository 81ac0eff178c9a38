-- Which patterns match a path, in the order in which they are tried (Vault's documentation, "Policies", policy syntax;
-- for LIST this project's).
use Rattle.std.specs.Prelude.{◌∷◌, ◌++◌, List, [], map, Bool, false}
use Rattle.records.specs.Words.{Text, same, Verb, slash}
use Rattle.broker_types.specs.declared.ask.Verb.TheVariants as verb
use Rattle.policies.specs.declared.pattern.Pattern.{Pattern}
use Rattle.policies.specs.declared.pattern.Pattern.TheVariants.{Exact, Prefix}

-- whether two patterns are one
abbrev pub same_pattern : Pattern → Pattern → Bool
same_pattern (Exact s) (Exact t) = same s t
same_pattern (Prefix s) (Prefix t) = same s t
same_pattern _ _ = false

-- all texts that a text begins with, the longest first: the text itself first, and the empty text last
abbrev pub beginnings : Text → List Text
beginnings [] = [] ∷ []
beginnings (c ∷ cs) = map (λ t. c ∷ t) (beginnings cs) ++ ([] ∷ [])

-- the path and a slash
abbrev pub with_slash : Text → Text
with_slash path = path ++ slash ∷ []

-- The patterns that match a path: the exact one first, and then the prefixes, the longest first. LIST tests the path
-- and a slash; after the exact pattern of this text comes the exact pattern of the path.
abbrev pub tried : Verb → Text → List Pattern
tried verb.List path = Exact (with_slash path) ∷ Exact path ∷ map Prefix (beginnings (with_slash path))
tried _ path = Exact path ∷ map Prefix (beginnings path)
