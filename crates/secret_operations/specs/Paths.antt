-- Which commands are at the path of a secret or of an object (this project's definition).
use Rattle.broker_model.specs.Words.{Bool, true, false}
use Rattle.broker_model.specs.declared.commands.CubbyholeCommand.{CubbyholeCommand}
use Rattle.broker_model.specs.declared.commands.CubbyholeCommand.TheVariants as cubbyhole
use Rattle.broker_model.specs.declared.commands.SecretCommand.{SecretCommand}
use Rattle.broker_model.specs.declared.commands.SecretCommand.TheVariants as command

-- whether the command needs the path of an object: a list may be of the whole cubbyhole
abbrev pub needs_object_path : CubbyholeCommand → Bool
needs_object_path cubbyhole.List = false
needs_object_path _ = true

-- whether the command needs the path of a secret: settings are those of the mount, and a list may be of a whole mount
abbrev pub needs_path : SecretCommand → Bool
needs_path command.ShowSettings = false
needs_path (command.SetSettings asked) = false
needs_path command.List = false
needs_path _ = true
