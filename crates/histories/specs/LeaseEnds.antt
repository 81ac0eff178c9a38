-- The law that a revoked lease stays revoked, as a statement (Vault's documentation, "Lease, renew, and revoke",
-- "/sys/leases", "/sys/mounts").
use Rattle.std.specs.Prelude.{◌≡◌, ◌≢◌, ◌≤◌, ◌⊎◌, ◌++◌}
use Rattle.histories.specs.Common.{ℕ, Bool, true, Some, None, Ok, nat_eq, codes, starts_with, IsRefused, Text, get}
use Rattle.histories.specs.Common.{Lease, Broker, lease_of, Command, on_lease, on_mount, command_of, no_content}
use Rattle.histories.specs.Common.{Status, LeaseCommand, MountCommand}
use Rattle.histories.specs.History.{AreAsked, Asking, AskedAt, History, clocked}
use Rattle.histories.specs.Revocation.{LacksLease}

-- the id begins with the prefix and a slash
abbrev pub is_below : Text → Text → Bool
is_below prefix lease_id = starts_with nat_eq lease_id (prefix ++ codes "/")

-- a command below a prefix names the lease: by its id, or by the prefix
abbrev pub NamesBelow : Text → Text → LeaseCommand → Type 0
NamesBelow lease_id prefix (LeaseCommand.Revoke named) = named ≡ lease_id
NamesBelow lease_id prefix LeaseCommand.RevokeUnder = is_below prefix lease_id ≡ true
NamesBelow lease_id prefix _ = ⊥

-- a command on a mount that is there names the lease: the disabling of that below which it is
abbrev pub NamesMount : Broker → Text → Text → MountCommand → Type 0
NamesMount b lease_id name MountCommand.Disable = (is_below name lease_id ≡ true) × (get b.mounts name ≢ None)
NamesMount b lease_id name _ = ⊥

-- the command ends the lease of this id, whichever token has it
abbrev pub EndsLease : Broker → Text → Command → Type 0
EndsLease b lease_id (on_lease prefix command) = NamesBelow lease_id prefix command
EndsLease b lease_id (on_mount name command) = NamesMount b lease_id name command
EndsLease b lease_id _ = ⊥

-- the request was a 204 to a command that ends the lease of this id
pub record RevokesLease (a : Asking) (lease_id : Text) : Type 0 where
  pub command : Command
  pub means : command_of (clocked a).mounts a.ask ≡ Ok command
  pub ends : EndsLease (clocked a) lease_id command
  pub answered : a.outcome.response.status ≡ Status.NoContent

pub record LeasesStayRevoked (history : History) : Type 0 where
  -- A command that ends leases is answered with 204, or refused.
  pub answered : (i : ℕ) (a : Asking) (lease_id : Text) (command : Command) → AskedAt history i a
      → command_of (clocked a).mounts a.ask ≡ Ok command → EndsLease (clocked a) lease_id command
      → (a.outcome.response ≡ no_content) ⊎ IsRefused a.outcome.response
  -- After a 204 no token has a lease of an id that was named.
  pub gone : (i : ℕ) (a : Asking) (q lease_id : Text) → AskedAt history i a → RevokesLease a lease_id
      → lease_of a.outcome.next q lease_id ≡ None
  -- And of each that was there no later state has a lease of the identifier, nor of the credential. So what is issued
  -- below the same prefix later has others.
  pub lasts : (i j : ℕ) (a x : Asking) (q lease_id : Text) (l : Lease) → AskedAt history i a
      → RevokesLease a lease_id → lease_of (clocked a) q lease_id ≡ Some l → AskedAt history j x → i ≤ j
      → LacksLease x.outcome.next lease_id l

-- whatever the first broker is
abbrev pub AllLeasesStayRevoked : Type 0
AllLeasesStayRevoked = (b : Broker) (history : History) → AreAsked b history → LeasesStayRevoked history
