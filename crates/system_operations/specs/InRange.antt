-- Commands that fit into rows (this project's row format).
use Rattle.std.specs.Prelude.{◌<◌, ◌^◌, length, ⊤}
use Rattle.broker_model.specs.declared.commands.PolicyCommand.{PolicyCommand}
use Rattle.broker_model.specs.declared.commands.PolicyCommand.TheVariants as command

-- four bytes hold the length of the text that a policy is set to
abbrev pub IsPolicyCommandInRange : PolicyCommand → Type 0
IsPolicyCommandInRange (command.Set text) = length text < 2 ^ 32
IsPolicyCommandInRange _ = ⊤
