-- What a command of the code means (this project's definition).
use Rattle.std.specs.Prelude.{◌≡◌, true, ⊤}
use Rattle.broker_model.specs.Words.{is_mount_name, is_path, on_cubbyhole, on_token, on_secret, on_policy, on_mount}
use Rattle.broker_model.specs.Words.{on_lease, on_issued, on_wrapping}
use Rattle.broker_model.specs.Command as model
use Rattle.secret_operations.specs.InRange.{IsCubbyholeCommandInRange, IsSecretCommandInRange, IsIssuedCommandInRange}
use Rattle.secret_operations.specs.Paths.{needs_path, needs_object_path}
use Rattle.system_operations.specs.InRange.{IsPolicyCommandInRange}
use Rattle.token_operations.specs.TokenRanges.{IsTokenCommandInRange}
use Rattle.broker.specs.declared.command.Command.{Command}
use Rattle.broker.specs.declared.command.Command.TheVariants.{OnCubbyhole, OnToken, OnSecret, OnPolicy, OnMount}
use Rattle.broker.specs.declared.command.Command.TheVariants.{OnLease, OnIssued, OnWrapping}

-- the command, in the words of the definition
abbrev pub meant : Command → model.Command
meant (OnCubbyhole path command) = on_cubbyhole path.now command
meant (OnToken command) = on_token command
meant (OnSecret place command) = on_secret place command
meant (OnPolicy name command) = on_policy name.now command
meant (OnMount name command) = on_mount name.now command
meant (OnLease prefix command) = on_lease prefix.now command
meant (OnIssued place command) = on_issued place command
meant (OnWrapping command) = on_wrapping command

-- where it acts is of the form that it asks for
abbrev pub IsWellPlaced : model.Command → Type 0
IsWellPlaced (on_cubbyhole path command) = needs_object_path command ≡ true → is_path path ≡ true
IsWellPlaced (on_token command) = ⊤
IsWellPlaced (on_secret place command) =
    (is_mount_name place.mount ≡ true) × (needs_path command ≡ true → is_path place.path ≡ true)
IsWellPlaced (on_policy name command) = ⊤
IsWellPlaced (on_mount name command) = ⊤
IsWellPlaced (on_lease prefix command) = ⊤
IsWellPlaced (on_issued place command) = is_mount_name place.mount ≡ true
IsWellPlaced (on_wrapping command) = ⊤

-- what it brings can be kept
abbrev pub IsInRange : model.Command → Type 0
IsInRange (on_cubbyhole path command) = IsCubbyholeCommandInRange command
IsInRange (on_token command) = IsTokenCommandInRange command
IsInRange (on_secret place command) = IsSecretCommandInRange command
IsInRange (on_policy name command) = IsPolicyCommandInRange command
IsInRange (on_mount name command) = ⊤
IsInRange (on_lease prefix command) = ⊤
IsInRange (on_issued place command) = IsIssuedCommandInRange command
IsInRange (on_wrapping command) = ⊤
