-- The law of a mount that is disabled, as a statement (Vault's documentation, "/sys/mounts", disable secrets engine).
use Rattle.std.specs.Prelude.{◌≡◌, ◌≢◌, ◌⊎◌}
use Rattle.histories.specs.Common.{ℕ, true, false, None, Ok, Text, get, Broker, lease_of, on_mount, command_of, Status}
use Rattle.histories.specs.Common.{MountCommand}
use Rattle.histories.specs.History.{AreAsked, Asking, AskedAt, History, clocked}
use Rattle.histories.specs.LeaseEnds.{is_below}

-- the request was a 204 to the disabling of the mount, which was there
pub record Disables (a : Asking) (name : Text) : Type 0 where
  pub means : command_of (clocked a).mounts a.ask ≡ Ok (on_mount name MountCommand.Disable)
  pub there : get (clocked a).mounts name ≢ None
  pub answered : a.outcome.response.status ≡ Status.NoContent

-- Nothing is left of the mount: no secret, no role and no lease, whichever token had it.
pub record LeavesNothing (b : Broker) (name : Text) : Type 0 where
  pub mount : get b.mounts name ≡ None
  pub secrets : (q : Text) → is_below name q ≡ true → get b.secrets q ≡ None
  pub roles : (q : Text) → is_below name q ≡ true → get b.roles q ≡ None
  pub leases : (t q : Text) → is_below name q ≡ true → lease_of b t q ≡ None

-- All that is of other mounts is as it was, but for the leases of a token that is gone.
pub record KeepsOthers (b next : Broker) (name : Text) : Type 0 where
  pub mounts : (q : Text) → q ≢ name → get next.mounts q ≡ get b.mounts q
  pub secrets : (q : Text) → is_below name q ≡ false → get next.secrets q ≡ get b.secrets q
  pub roles : (q : Text) → is_below name q ≡ false → get next.roles q ≡ get b.roles q
  pub leases : (t q : Text) → is_below name q ≡ false
      → (lease_of next t q ≡ lease_of b t q) ⊎ (get next.tokens t ≡ None)

pub record DisabledMountsGo (history : History) : Type 0 where
  pub nothing : (i : ℕ) (a : Asking) (name : Text) → AskedAt history i a → Disables a name
      → LeavesNothing a.outcome.next name
  pub others : (i : ℕ) (a : Asking) (name : Text) → AskedAt history i a → Disables a name
      → KeepsOthers (clocked a) a.outcome.next name

abbrev pub AllDisabledMountsGo : Type 0
AllDisabledMountsGo = (b : Broker) (history : History) → AreAsked b history → DisabledMountsGo history
