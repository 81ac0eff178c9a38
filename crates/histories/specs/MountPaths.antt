-- What the paths mean that lead to a mount which was enabled, and those of policies, of mounts and of cubbyholes that
-- are not in the other lists (Vault's documentation, "KV secrets engine - version 2 (API)", "/sys/policies",
-- "/sys/mounts", "Cubbyhole secrets engine (API)"; the engine that issues credentials is this project's).
use Rattle.std.specs.Prelude.{◌≡◌, ◌++◌, ◌∷◌}
use Rattle.broker_model.specs.Words.{is_mount_name, full_text, at}
use Rattle.histories.specs.Common.{Members, ℕ, [], true, Result, Ok, Some, codes, Text, Map, get, Engine, Mount}
use Rattle.histories.specs.Common.{issued, kv, ◌>>=◌, Ask, Verb, Refusal, lacks, slash, are_bytes, body_members}
use Rattle.histories.specs.Common.{Command, command_of, meant_by, on_cubbyhole, on_issued, on_mount, on_policy}
use Rattle.histories.specs.Common.{on_secret, read_as, Place, CubbyholeCommand, IssuedCommand, MountCommand}
use Rattle.histories.specs.Common.{PolicyCommand, SecretCommand}
use Rattle.api_json.specs.Readers as reader
use Rattle.histories.specs.LeasePaths.{AskedMeans}

-- ---- paths below the name of a mount

-- Where a mount of the name has the engine, the verb means this at the name, a slash and the rest.
abbrev pub MeansIn : Engine → Verb → Text → (Text → Ask → Result Command Refusal) → Type 0
MeansIn engine v rest meaning =
    (mounts : Map Mount) (m : Mount) (name : Text) (a : Ask) → get mounts name ≡ Some m → m.engine ≡ engine
    → is_mount_name name ≡ true → a.verb ≡ v → a.path ≡ name ++ slash ∷ rest → command_of mounts a ≡ meaning name a

-- so it is at a text and any path of bytes behind it, in a mount of secrets
abbrev pub AtPath : Verb → Text → (Place → Ask → Result Command Refusal) → Type 0
AtPath v text meaning =
    (c : ℕ) (path : Text) → are_bytes (c ∷ path) ≡ true
    → MeansIn kv v (text ++ c ∷ path) (λ name. meaning (at name (c ∷ path)))

-- and at a text and any segment of bytes behind it, in a mount that issues credentials
abbrev pub AtName : Verb → Text → (Place → Ask → Result Command Refusal) → Type 0
AtName v text meaning =
    (c : ℕ) (segment : Text) → are_bytes (c ∷ segment) ≡ true → lacks slash (c ∷ segment) ≡ true
    → MeansIn issued v (text ++ c ∷ segment) (λ name. meaning (at name (c ∷ segment)))

-- a command on a place, whatever the body is
abbrev pub on_secret_at : SecretCommand → Place → Ask → Result Command Refusal
on_secret_at command p a = Ok (on_secret p command)

abbrev pub on_issued_at : IssuedCommand → Place → Ask → Result Command Refusal
on_issued_at command p a = Ok (on_issued p command)

-- one by what the reader finds in the body
abbrev pub on_secret_found : {X : Type 0} → (Members → Result X Refusal) → (X → SecretCommand) → Place → Ask
    → Result Command Refusal
on_secret_found read command p a = meant_by (on_secret p) (read_as read command a.body)

abbrev pub on_issued_found : {X : Type 0} → (Members → Result X Refusal) → (X → IssuedCommand) → Place → Ask
    → Result Command Refusal
on_issued_found read command p a = meant_by (on_issued p) (read_as read command a.body)

-- a read of the version that the query asks for
abbrev pub on_version : Place → Ask → Result Command Refusal
on_version p a = meant_by (on_secret p) (reader.version_number a.version >>= (λ n. Ok (SecretCommand.Read n)))

-- the paths in a mount of versioned secrets
pub record PathsOfSecrets : Type 0 where
  pub show_settings : MeansIn kv Verb.Get (codes "config") (λ name. on_secret_at SecretCommand.ShowSettings
      (at name []))
  pub set_settings : MeansIn kv Verb.Write (codes "config")
      (λ name. on_secret_found reader.mount_settings SecretCommand.SetSettings (at name []))
  pub read : AtPath Verb.Get (codes "data/") on_version
  pub write : AtPath Verb.Write (codes "data/") (on_secret_found reader.secret_write SecretCommand.Write)
  pub delete_current : AtPath Verb.Delete (codes "data/") (on_secret_at SecretCommand.DeleteCurrent)
  pub delete : AtPath Verb.Write (codes "delete/") (on_secret_found reader.versions SecretCommand.Delete)
  pub undelete : AtPath Verb.Write (codes "undelete/") (on_secret_found reader.versions SecretCommand.Undelete)
  pub destroy : AtPath Verb.Write (codes "destroy/") (on_secret_found reader.versions SecretCommand.Destroy)
  pub list_whole : MeansIn kv Verb.List (codes "metadata") (λ name. on_secret_at SecretCommand.List (at name []))
  pub list : AtPath Verb.List (codes "metadata/") (on_secret_at SecretCommand.List)
  pub show_metadata : AtPath Verb.Get (codes "metadata/") (on_secret_at SecretCommand.ShowMetadata)
  pub set_metadata : AtPath Verb.Write (codes "metadata/") (on_secret_found reader.key_settings
      SecretCommand.SetMetadata)
  pub remove : AtPath Verb.Delete (codes "metadata/") (on_secret_at SecretCommand.Remove)

-- those in a mount that issues credentials
pub record PathsOfIssued : Type 0 where
  pub show_role : AtName Verb.Get (codes "roles/") (on_issued_at IssuedCommand.ShowRole)
  pub set_role : AtName Verb.Write (codes "roles/") (on_issued_found reader.role_settings IssuedCommand.SetRole)
  pub remove_role : AtName Verb.Delete (codes "roles/") (on_issued_at IssuedCommand.RemoveRole)
  pub issue : AtName Verb.Get (codes "creds/") (on_issued_at IssuedCommand.Issue)
  pub verify : MeansIn issued Verb.Write (codes "verify")
      (λ name. on_issued_found reader.credential IssuedCommand.Verify (at name []))

-- ---- paths that are always there

-- a write of what the body is, at a path of the caller's cubbyhole
abbrev pub on_written : Text → Ask → Result Command Refusal
on_written path a =
    meant_by (on_cubbyhole path) (body_members a.body >>= (λ members. Ok (CubbyholeCommand.Write (full_text members))))

pub record PathsOfSettings : Type 0 where
  pub list_policies : AskedMeans Verb.List (codes "sys/policies/acl") (λ a. Ok (on_policy [] PolicyCommand.List))
  pub show_policy : (c : ℕ) (name : Text) → are_bytes (c ∷ name) ≡ true → lacks slash (c ∷ name) ≡ true
      → AskedMeans Verb.Get (codes "sys/policies/acl/" ++ c ∷ name) (λ a. Ok (on_policy (c ∷ name) PolicyCommand.Show))
  pub set_policy : (c : ℕ) (name : Text) → are_bytes (c ∷ name) ≡ true → lacks slash (c ∷ name) ≡ true
      → AskedMeans Verb.Write (codes "sys/policies/acl/" ++ c ∷ name)
      (λ a. meant_by (on_policy (c ∷ name)) (read_as reader.policy_text PolicyCommand.Set a.body))
  pub remove_policy : (c : ℕ) (name : Text) → are_bytes (c ∷ name) ≡ true → lacks slash (c ∷ name) ≡ true
      → AskedMeans Verb.Delete (codes "sys/policies/acl/" ++ c ∷ name)
      (λ a. Ok (on_policy (c ∷ name) PolicyCommand.Remove))
  pub list_mounts : AskedMeans Verb.Get (codes "sys/mounts") (λ a. Ok (on_mount [] MountCommand.List))
  pub enable_mount : (c : ℕ) (name : Text) → are_bytes (c ∷ name) ≡ true → lacks slash (c ∷ name) ≡ true
      → AskedMeans Verb.Write (codes "sys/mounts/" ++ c ∷ name)
      (λ a. meant_by (on_mount (c ∷ name)) (read_as reader.mount_creation MountCommand.Enable a.body))
  pub write_object : (c : ℕ) (path : Text) → are_bytes (c ∷ path) ≡ true
      → AskedMeans Verb.Write (codes "cubbyhole/" ++ c ∷ path) (on_written (c ∷ path))
  pub list_objects : (c : ℕ) (path : Text) → are_bytes (c ∷ path) ≡ true
      → AskedMeans Verb.List (codes "cubbyhole/" ++ c ∷ path) (λ a. Ok (on_cubbyhole (c ∷ path) CubbyholeCommand.List))
  pub list_cubbyhole : AskedMeans Verb.List (codes "cubbyhole") (λ a. Ok (on_cubbyhole [] CubbyholeCommand.List))
