-- How errors are told and passed on (this project's).
use Rattle.std.specs.Prelude.{◌≡◌, ◌≢◌}
use Rattle.clap.specs.Words.{kind_of}
use Rattle.clap.specs.declared.error.Error.{Error}
use Rattle.clap.specs.declared.error.kind.ErrorKind.TheVariants.{OutOfMemory}
use Rattle.broker_types.specs.declared.fault.Fault.TheVariants.{Memory}
use Rattle.command_line.specs.declared.mistake.Mistake.TheVariants.{Words}
use Rattle.command_line.specs.declared.no_body.NoBody.{NoBody}
use Rattle.command_line.specs.declared.no_body.NoBody.TheVariants as body
use Rattle.command_line.specs.declared.no_command.NoCommand.{NoCommand}
use Rattle.command_line.specs.declared.no_command.NoCommand.TheVariants.{Usage, Fault}
use Rattle.command_line.specs.declared.no_request.NoRequest.{NoRequest}
use Rattle.command_line.specs.declared.no_request.NoRequest.TheVariants as reason

-- running out of memory is a fault, and every other error is usage
abbrev pub Tells : Error → NoCommand → Type 0
Tells error (Usage told) = (told ≡ error) × (kind_of error ≢ OutOfMemory)
Tells error (Fault fault) = (fault ≡ Memory) × (kind_of error ≡ OutOfMemory)

-- a mistake of words is a mistake of the command, and a fault stays one
abbrev pub IsPassedOn : NoBody → NoRequest → Type 0
IsPassedOn (body.Mistake m) found = found ≡ reason.Mistaken (Words m)
IsPassedOn (body.Fault f) found = found ≡ reason.Fault f
