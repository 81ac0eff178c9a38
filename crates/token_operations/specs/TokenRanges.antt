-- What commands on tokens may bring so that a broker can keep it (this project's definition).
use Rattle.std.specs.Prelude.{◌<◌, ◌≤◌, ◌^◌, All, IsUtf8, ⊤}
use Rattle.broker_model.specs.Words.{longest_duration, Names, IsIdentifier, Text, IsKeptCreation, TokenCreation}
use Rattle.broker_model.specs.declared.commands.TokenCommand.{TokenCommand}
use Rattle.broker_model.specs.declared.commands.TokenCommand.TheVariants as command

-- both are texts
abbrev pub IsTextPair : Text × Text → Type 0
IsTextPair e = IsUtf8 e.0 × IsUtf8 e.1

-- the members of a new token are in range: they can be kept, and the metadata are texts
pub record IsInRange (asked : TokenCreation) : Type 0 where
  pub kept : IsKeptCreation asked
  pub explicit_max_ttl : asked.explicit_max_ttl ≤ longest_duration
  pub num_uses : asked.num_uses < 2 ^ 64
  pub texts : All IsTextPair asked.meta

-- what the command brings can be kept
abbrev pub IsTokenCommandInRange : TokenCommand → Type 0
IsTokenCommandInRange (command.Create making asked) = IsKeptCreation asked
IsTokenCommandInRange _ = ⊤

-- the names of a new token and of its accessor are identifiers
pub record AreTokenNames (names : Names) : Type 0 where
  pub token : IsIdentifier names.token
  pub accessor : IsIdentifier names.accessor
