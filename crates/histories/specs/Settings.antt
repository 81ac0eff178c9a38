-- The law of what becomes of roles, policies and mounts, as a statement: each changes by requests for it alone, to what
-- these ask for (Vault's documentation, "/sys/policies", "/sys/mounts", "KV secrets engine - version 2 (API)",
-- configure; the engine that issues credentials is this project's).
use Rattle.std.specs.Prelude.{◌≡◌, ◌≢◌, ◌⊎◌}
use Rattle.histories.specs.Common.{ℕ, Bool, false, Option, Some, None, Ok, codes, Text, get, Broker, Engine, Mount}
use Rattle.histories.specs.Common.{Role, issued, kv, RoleSettings, MountCreation, MountSettings, command_of, on_issued}
use Rattle.histories.specs.Common.{on_mount, on_policy, on_secret, Place, Status, IssuedCommand, MountCommand}
use Rattle.histories.specs.Common.{PolicyCommand, SecretCommand}
use Rattle.histories.specs.History.{AreAsked, Asking, AskedAt, History, clocked}
use Rattle.histories.specs.Versions.{DisablesAbove, named}

-- ---- roles

-- the request was a 204 to this command on the role q
pub record OnRole (a : Asking) (q : Text) (asked : IssuedCommand) : Type 0 where
  pub place : Place
  pub means : command_of (clocked a).mounts a.ask ≡ Ok (on_issued place asked)
  pub name : q ≡ named place
  pub answered : a.outcome.response.status ≡ Status.NoContent

-- the role that the body gives
abbrev pub role_given : RoleSettings → Role
role_given asked = record { ttl = asked.ttl; max_ttl = asked.max_ttl }

-- The role q is as it was; or it is as the request set it, or was removed by it, or went with its mount.
abbrev pub RoleBecomes : Asking → Text → Option Role → Option Role → Type 0
RoleBecomes a q old new =
    (new ≡ old)
    ⊎ (((asked : RoleSettings) × OnRole a q (IssuedCommand.SetRole asked) × (new ≡ Some (role_given asked)))
    ⊎ ((new ≡ None) × (OnRole a q IssuedCommand.RemoveRole ⊎ DisablesAbove a q)))

-- ---- policies

-- the request was a 204 to this command on the policy
pub record OnPolicy (a : Asking) (name : Text) (asked : PolicyCommand) : Type 0 where
  pub means : command_of (clocked a).mounts a.ask ≡ Ok (on_policy name asked)
  pub answered : a.outcome.response.status ≡ Status.NoContent

-- The policy is as it was; or it is the text that the request gave, or was removed by it. `root` is never set nor
-- removed, and `default` never removed.
abbrev pub PolicyBecomes : Asking → Text → Option Text → Option Text → Type 0
PolicyBecomes a name old new =
    (new ≡ old)
    ⊎ (((text : Text) × OnPolicy a name (PolicyCommand.Set text) × (new ≡ Some text) × (name ≢ codes "root"))
    ⊎ ((new ≡ None) × OnPolicy a name PolicyCommand.Remove × (name ≢ codes "root") × (name ≢ codes "default")))

-- ---- mounts

-- the request was a 204 to this command on the mount
pub record OnMount (a : Asking) (name : Text) (asked : MountCommand) : Type 0 where
  pub means : command_of (clocked a).mounts a.ask ≡ Ok (on_mount name asked)
  pub answered : a.outcome.response.status ≡ Status.NoContent

-- the request was a 204 to these settings of the mount
pub record SetsMount (a : Asking) (name : Text) (asked : MountSettings) : Type 0 where
  pub place : Place
  pub means : command_of (clocked a).mounts a.ask ≡ Ok (on_secret place (SecretCommand.SetSettings asked))
  pub name_is : name ≡ place.mount
  pub answered : a.outcome.response.status ≡ Status.NoContent

-- The type that is asked for means the engine: `kv-v2`, or `kv` of version 2, means versioned secrets, and `issued` the
-- engine that issues credentials.
abbrev pub MeansEngine : MountCreation → Engine → Type 0
MeansEngine asked kv =
    (asked.type_name ≡ codes "kv-v2") ⊎ ((asked.type_name ≡ codes "kv") × (asked.version ≡ Some 2))
MeansEngine asked issued = asked.type_name ≡ codes "issued"

-- the mount is of the engine that was asked for, without settings
pub record IsEnabled (asked : MountCreation) (m : Mount) : Type 0 where
  pub engine : MeansEngine asked m.engine
  pub cas_required : m.cas_required ≡ false
  pub max_versions : m.max_versions ≡ 0

-- the settings that are given are set, and the others are as they were
pub record MountIsSet (asked : MountSettings) (m next : Mount) : Type 0 where
  pub engine : next.engine ≡ m.engine
  pub cas_required : (v : Bool) → asked.cas_required ≡ Some v → next.cas_required ≡ v
  pub same_cas_required : asked.cas_required ≡ None → next.cas_required ≡ m.cas_required
  pub max_versions : (n : ℕ) → asked.max_versions ≡ Some n → next.max_versions ≡ n
  pub same_max_versions : asked.max_versions ≡ None → next.max_versions ≡ m.max_versions

-- the request enabled this mount, where none was, under a name that is not reserved
pub record Enables (a : Asking) (name : Text) (asked : MountCreation) (old new : Option Mount) : Type 0 where
  pub on : OnMount a name (MountCommand.Enable asked)
  pub free : old ≡ None
  pub unreserved : (name ≢ codes "sys") × (name ≢ codes "auth") × (name ≢ codes "cubbyhole")
      × (name ≢ codes "identity")
  pub after : Mount
  pub there : new ≡ Some after
  pub is : IsEnabled asked after

-- the request gave the mount settings
pub record Sets (a : Asking) (name : Text) (asked : MountSettings) (old new : Option Mount) : Type 0 where
  pub on : SetsMount a name asked
  pub before : Mount
  pub was : old ≡ Some before
  pub after : Mount
  pub there : new ≡ Some after
  pub is : MountIsSet asked before after

-- The mount is as it was; or the request enabled it, gave it settings, or disabled it.
abbrev pub MountBecomes : Asking → Text → Option Mount → Option Mount → Type 0
MountBecomes a name old new =
    (new ≡ old)
    ⊎ (((asked : MountCreation) × Enables a name asked old new)
    ⊎ (((asked : MountSettings) × Sets a name asked old new)
    ⊎ ((new ≡ None) × OnMount a name MountCommand.Disable)))

-- ---- the clock

-- the broker at the clock of the request has the roles, the policies and the mounts that it had before
pub record ClockKeepsSettings (a : Asking) : Type 0 where
  pub roles : (clocked a).roles ≡ a.broker.roles
  pub policies : (clocked a).policies ≡ a.broker.policies
  pub mounts : (clocked a).mounts ≡ a.broker.mounts

-- ---- the law

pub record SettingsFollow (history : History) : Type 0 where
  -- The clock alone changes none of them.
  pub clock : (i : ℕ) (a : Asking) → AskedAt history i a → ClockKeepsSettings a
  -- Each role, policy and mount changes by requests for it alone.
  pub roles : (i : ℕ) (a : Asking) (q : Text) → AskedAt history i a
      → RoleBecomes a q (get (clocked a).roles q) (get a.outcome.next.roles q)
  pub policies : (i : ℕ) (a : Asking) (q : Text) → AskedAt history i a
      → PolicyBecomes a q (get (clocked a).policies q) (get a.outcome.next.policies q)
  pub mounts : (i : ℕ) (a : Asking) (q : Text) → AskedAt history i a
      → MountBecomes a q (get (clocked a).mounts q) (get a.outcome.next.mounts q)
  -- And what a 204 asked for was done.
  pub role_set : (i : ℕ) (a : Asking) (q : Text) (asked : RoleSettings) → AskedAt history i a
      → OnRole a q (IssuedCommand.SetRole asked) → get a.outcome.next.roles q ≡ Some (role_given asked)
  pub role_removed : (i : ℕ) (a : Asking) (q : Text) → AskedAt history i a → OnRole a q IssuedCommand.RemoveRole
      → get a.outcome.next.roles q ≡ None
  pub policy_set : (i : ℕ) (a : Asking) (name text : Text) → AskedAt history i a
      → OnPolicy a name (PolicyCommand.Set text)
      → get a.outcome.next.policies name ≡ Some text
  pub policy_removed : (i : ℕ) (a : Asking) (name : Text) → AskedAt history i a → OnPolicy a name PolicyCommand.Remove
      → get a.outcome.next.policies name ≡ None
  pub mount_enabled : (i : ℕ) (a : Asking) (name : Text) (asked : MountCreation) → AskedAt history i a
      → OnMount a name (MountCommand.Enable asked)
      → Enables a name asked (get (clocked a).mounts name) (get a.outcome.next.mounts name)
  pub mount_set : (i : ℕ) (a : Asking) (name : Text) (asked : MountSettings) (m : Mount) → AskedAt history i a
      → SetsMount a name asked → get (clocked a).mounts name ≡ Some m
      → Sets a name asked (Some m) (get a.outcome.next.mounts name)
  pub mount_disabled : (i : ℕ) (a : Asking) (name : Text) → AskedAt history i a → OnMount a name MountCommand.Disable
      → get a.outcome.next.mounts name ≡ None

-- whatever the first broker is
abbrev pub AllSettingsFollow : Type 0
AllSettingsFollow = (b : Broker) (history : History) → AreAsked b history → SettingsFollow history
