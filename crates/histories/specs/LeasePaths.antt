-- What the paths mean that end leases (Vault's documentation, "/sys/leases", "/sys/mounts").
use Rattle.std.specs.Prelude.{◌≡◌, ◌++◌, ◌∷◌}
use Rattle.histories.specs.Common.{ℕ, [], true, Result, Ok, codes, Text, Map, Mount, Ask, Verb, Refusal, lacks, slash}
use Rattle.histories.specs.Common.{are_bytes, Command, command_of, meant_by, on_lease, on_mount, read_as, read_none}
use Rattle.histories.specs.Common.{LeaseCommand, MountCommand}
use Rattle.api_json.specs.Readers as reader

-- the verb means this at the path, or is refused by it, whatever mounts there are
abbrev pub AskedMeans : Verb → Text → (Ask → Result Command Refusal) → Type 0
AskedMeans v path meaning =
    (mounts : Map Mount) (a : Ask) → a.verb ≡ v → a.path ≡ path → command_of mounts a ≡ meaning a

-- Each of these paths means a command that ends leases. So what a law says of the command, it says of the path.
pub record PathsEndLeases : Type 0 where
  -- POST and PUT of `sys/leases/revoke` revoke the lease that the body names.
  pub revoke : AskedMeans Verb.Write (codes "sys/leases/revoke")
      (λ a. meant_by (on_lease []) (read_as reader.lease_id LeaseCommand.Revoke a.body))
  -- Those of `sys/leases/revoke-prefix/PREFIX` revoke all leases below the prefix, which is of bytes and not empty.
  pub revoke_prefix : (c : ℕ) (prefix : Text) → are_bytes (c ∷ prefix) ≡ true
      → AskedMeans Verb.Write (codes "sys/leases/revoke-prefix/" ++ c ∷ prefix)
      (λ a. meant_by (on_lease (c ∷ prefix)) (read_none LeaseCommand.RevokeUnder a.body))
  -- DELETE of `sys/mounts/NAME` disables the mount of the name, which is one segment of bytes.
  pub disable : (c : ℕ) (name : Text) → are_bytes (c ∷ name) ≡ true → lacks slash (c ∷ name) ≡ true
      → AskedMeans Verb.Delete (codes "sys/mounts/" ++ c ∷ name) (λ a. Ok (on_mount (c ∷ name) MountCommand.Disable))
