-- The law of how a request is answered that is not refused, as a statement (Vault's documentation, "HTTP API", HTTP
-- status codes; RFC 9110, sections 15.3.1, 15.3.5 and 15.5.5).
use Rattle.std.specs.Prelude.{◌≡◌, ◌⊎◌}
use Rattle.histories.specs.Common.{ℕ, Bool, true, false, None, Ok, codes, IsRefused, Text, Broker, Command, command_of}
use Rattle.histories.specs.Common.{on_cubbyhole, on_issued, on_lease, on_mount, on_policy, on_secret, on_token}
use Rattle.histories.specs.Common.{on_wrapping, no_content, Place, Status, CubbyholeCommand, IssuedCommand}
use Rattle.histories.specs.Common.{LeaseCommand, MountCommand, PolicyCommand, SecretCommand, TokenCommand}
use Rattle.histories.specs.History.{AreAsked, Asking, AskedAt, History, clocked}
use Rattle.histories.specs.Versions.{ShowsEnded}

-- ---- which commands tell nothing

abbrev pub cubbyhole_is_silent : CubbyholeCommand → Bool
cubbyhole_is_silent (CubbyholeCommand.Write full) = true
cubbyhole_is_silent CubbyholeCommand.Delete = true
cubbyhole_is_silent _ = false

abbrev pub token_is_silent : TokenCommand → Bool
token_is_silent (TokenCommand.Revoke t) = true
token_is_silent (TokenCommand.RevokeOrphan t) = true
token_is_silent (TokenCommand.RevokeAccessor accessor) = true
token_is_silent TokenCommand.RevokeSelf = true
token_is_silent _ = false

abbrev pub secret_is_silent : SecretCommand → Bool
secret_is_silent (SecretCommand.SetSettings asked) = true
secret_is_silent SecretCommand.DeleteCurrent = true
secret_is_silent (SecretCommand.Delete ns) = true
secret_is_silent (SecretCommand.Undelete ns) = true
secret_is_silent (SecretCommand.Destroy ns) = true
secret_is_silent (SecretCommand.SetMetadata asked) = true
secret_is_silent SecretCommand.Remove = true
secret_is_silent _ = false

abbrev pub policy_is_silent : PolicyCommand → Bool
policy_is_silent (PolicyCommand.Set text) = true
policy_is_silent PolicyCommand.Remove = true
policy_is_silent _ = false

abbrev pub mount_is_silent : MountCommand → Bool
mount_is_silent (MountCommand.Enable asked) = true
mount_is_silent MountCommand.Disable = true
mount_is_silent _ = false

abbrev pub lease_is_silent : LeaseCommand → Bool
lease_is_silent (LeaseCommand.Revoke id) = true
lease_is_silent LeaseCommand.RevokeUnder = true
lease_is_silent _ = false

abbrev pub issued_is_silent : IssuedCommand → Bool
issued_is_silent (IssuedCommand.SetRole asked) = true
issued_is_silent IssuedCommand.RemoveRole = true
issued_is_silent _ = false

-- whether a command changes something, and tells nothing
abbrev pub is_silent : Command → Bool
is_silent (on_cubbyhole path command) = cubbyhole_is_silent command
is_silent (on_token command) = token_is_silent command
is_silent (on_secret place command) = secret_is_silent command
is_silent (on_policy name command) = policy_is_silent command
is_silent (on_mount name command) = mount_is_silent command
is_silent (on_lease prefix command) = lease_is_silent command
is_silent (on_issued place command) = issued_is_silent command
is_silent (on_wrapping command) = false

-- ---- which commands are always refused

-- The command asks for what is never done: to write an object without members to a cubbyhole, to set or to remove the
-- policy `root`, to remove `default`, or to disable a mount that is always there.
abbrev pub IsNeverDone : Command → Type 0
IsNeverDone (on_cubbyhole path command) = command ≡ CubbyholeCommand.Write None
IsNeverDone (on_policy name command) =
    ((text : Text) × (command ≡ PolicyCommand.Set text) × (name ≡ codes "root"))
    ⊎ ((command ≡ PolicyCommand.Remove) × ((name ≡ codes "root") ⊎ (name ≡ codes "default")))
IsNeverDone (on_mount name command) =
    (command ≡ MountCommand.Disable)
    × ((name ≡ codes "sys") ⊎ ((name ≡ codes "auth") ⊎ (name ≡ codes "cubbyhole")))
IsNeverDone _ = ⊥

-- ---- the law

-- the command reads a version that is deleted or destroyed, and the answer is a 404 that shows what is left of it
abbrev pub ReadsEnded : Asking → Command → Type 0
ReadsEnded a command = (p : Place) × (n : ℕ) × (command ≡ on_secret p (SecretCommand.Read n)) × ShowsEnded a p n

pub record StatusesFollow (history : History) : Type 0 where
  -- A command that tells nothing is answered with 204, or refused.
  pub silent : (i : ℕ) (a : Asking) (command : Command) → AskedAt history i a
      → command_of (clocked a).mounts a.ask ≡ Ok command → is_silent command ≡ true
      → (a.outcome.response ≡ no_content) ⊎ IsRefused a.outcome.response
  -- Another is answered with 200, or refused; or it reads a version that has ended.
  pub told : (i : ℕ) (a : Asking) (command : Command) → AskedAt history i a
      → command_of (clocked a).mounts a.ask ≡ Ok command → is_silent command ≡ false
      → (a.outcome.response.status ≡ Status.Success) ⊎ (IsRefused a.outcome.response ⊎ ReadsEnded a command)
  -- And what is never done is refused.
  pub never : (i : ℕ) (a : Asking) (command : Command) → AskedAt history i a
      → command_of (clocked a).mounts a.ask ≡ Ok command → IsNeverDone command → IsRefused a.outcome.response

-- whatever the first broker is
abbrev pub AllStatusesFollow : Type 0
AllStatusesFollow = (b : Broker) (history : History) → AreAsked b history → StatusesFollow history
