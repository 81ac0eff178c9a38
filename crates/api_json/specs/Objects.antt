-- The objects that replies have: the members are in the order of the bytes of their names, times are texts (RFC 3339),
-- and lengths of time are seconds.
use Rattle.std.specs.Prelude.{◌∷◌, ◌==◌, if◌then◌else◌, ℕ, [], List, Bool, true, codes, Option, Some, None, is_some}
use Rattle.broker_types.specs.Words.{map, Text}
use Rattle.api_json.specs.Names.{◌⟼◌}
use Rattle.api_json.specs.Printing.{quoted, whole_number, object_of, null_text, bool_text, or_null, time, time_or}
use Rattle.api_json.specs.Printing.{texts, pairs, by_name}
use Rattle.api_json.specs.declared.name.Name.TheVariants as name
use Rattle.api_json.specs.declared.version_list.VersionObject.{VersionObject}
use Rattle.api_json.specs.declared.secret_objects.KeyObject.{KeyObject}
use Rattle.api_json.specs.declared.token_objects.TokenObject.{TokenObject}
use Rattle.api_json.specs.declared.token_objects.AuthObject.{AuthObject}
use Rattle.api_json.specs.declared.mount_objects.MountObject.{MountObject}
use Rattle.api_json.specs.declared.lease_objects.LeaseObject.{LeaseObject}
use Rattle.api_json.specs.declared.wrapping_objects.WrapObject.{WrapObject}

-- ---- tokens (Vault's documentation, "Token auth method (API)")

-- a token that was made or renewed
unfoldable pub auth_object : AuthObject → Text
auth_object a =
    object_of (
    name.Accessor ⟼ quoted a.accessor
    ∷ name.ClientToken ⟼ quoted a.client_token
    ∷ name.EntityId ⟼ quoted []
    ∷ name.LeaseDuration ⟼ whole_number a.lease_duration
    ∷ name.Metadata ⟼ pairs a.metadata
    ∷ name.NumUses ⟼ whole_number a.num_uses
    ∷ name.Orphan ⟼ bool_text a.orphan
    ∷ name.Policies ⟼ texts a.policies
    ∷ name.Renewable ⟼ bool_text a.renewable
    ∷ name.TokenPolicies ⟼ texts a.policies
    ∷ name.TokenType ⟼ quoted (codes "service")
    ∷ [])

-- the period of a token, if it is periodic, before other members
abbrev pub with_period : ℕ → List (Text × Text) → List (Text × Text)
with_period n ms = if n == 0 then ms else name.Period ⟼ whole_number n ∷ ms

-- the members of a token that come behind its period
abbrev pub behind_period : TokenObject → List (Text × Text)
behind_period t =
    name.Policies ⟼ texts t.policies
    ∷ name.Renewable ⟼ bool_text (is_some t.ends)
    ∷ name.Ttl ⟼ whole_number t.ttl
    ∷ name.TypeName ⟼ quoted (codes "service")
    ∷ []

-- a token that is looked up
unfoldable pub token_object : TokenObject → Text
token_object t =
    object_of (
    name.Accessor ⟼ quoted t.accessor
    ∷ name.CreationTime ⟼ whole_number t.issued
    ∷ name.CreationTtl ⟼ whole_number t.creation_ttl
    ∷ name.ExpireTime ⟼ time_or null_text t.ends
    ∷ name.ExplicitMaxTtl ⟼ whole_number t.explicit_max_ttl
    ∷ name.Id ⟼ quoted t.id
    ∷ name.IssueTime ⟼ time t.issued
    ∷ name.Meta ⟼ pairs t.meta
    ∷ name.NumUses ⟼ whole_number t.num_uses
    ∷ name.Orphan ⟼ bool_text t.orphan
    ∷ with_period t.period (behind_period t))

-- ---- secrets (Vault's documentation, "KV secrets engine - version 2 (API)")

-- a version of a secret with this custom metadata
unfoldable pub version_object : List (Text × Text) → VersionObject → Text
version_object custom_metadata v =
    object_of (
    name.CreatedTime ⟼ time v.created
    ∷ name.CustomMetadata ⟼ pairs custom_metadata
    ∷ name.DeletionTime ⟼ time_or (quoted []) v.deleted
    ∷ name.Destroyed ⟼ bool_text v.destroyed
    ∷ name.Version ⟼ whole_number v.version
    ∷ [])

-- a version that is read: its object, which is compact JSON already, and its metadata
unfoldable pub secret_object : Option Text → List (Text × Text) → VersionObject → Text
secret_object object custom_metadata v =
    object_of (name.Payload ⟼ or_null object ∷ name.Metadata ⟼ version_object custom_metadata v ∷ [])

-- one kept version of a key, by its number in digits
abbrev pub version_entry : VersionObject → Text × Text
version_entry v = (
  whole_number v.version,
  object_of (
      name.CreatedTime ⟼ time v.created
      ∷ name.DeletionTime ⟼ time_or (quoted []) v.deleted
      ∷ name.Destroyed ⟼ bool_text v.destroyed
      ∷ []),
)

-- in the order of the bytes of these digits: 10 comes before 2
unfoldable pub versions_object : List VersionObject → Text
versions_object vs = object_of (by_name (map version_entry vs))

-- a key with its versions
unfoldable pub key_object : KeyObject → Text
key_object k =
    object_of (
    name.CasRequired ⟼ bool_text k.cas_required
    ∷ name.CreatedTime ⟼ time k.created
    ∷ name.CurrentVersion ⟼ whole_number k.current_version
    ∷ name.CustomMetadata ⟼ pairs k.custom_metadata
    ∷ name.DeleteVersionAfter ⟼ quoted (codes "0s")
    ∷ name.MaxVersions ⟼ whole_number k.max_versions
    ∷ name.OldestVersion ⟼ whole_number k.oldest_version
    ∷ name.UpdatedTime ⟼ time k.updated
    ∷ name.Versions ⟼ versions_object k.versions
    ∷ [])

-- the settings of a mount
unfoldable pub settings_object : Bool → ℕ → Text
settings_object cas_required max_versions =
    object_of (
    name.CasRequired ⟼ bool_text cas_required
    ∷ name.DeleteVersionAfter ⟼ quoted (codes "0s")
    ∷ name.MaxVersions ⟼ whole_number max_versions
    ∷ [])

-- ---- lists of keys, and policies (Vault's documentation, "/sys/policies")

-- a list of keys, in the order in which they are given
unfoldable pub keys_object : List Text → Text
keys_object keys = object_of (name.Keys ⟼ texts keys ∷ [])

-- the name of a policy, and its text
unfoldable pub policy_object : Text → Text → Text
policy_object called policy =
    object_of (name.PolicyName ⟼ quoted called ∷ name.Policy ⟼ quoted policy ∷ [])

-- ---- mounts (Vault's documentation, "/sys/mounts")

-- the options of a mount: its version, and `null` if it has none
unfoldable pub options_object : Option Text → Text
options_object None = null_text
options_object (Some version) = object_of (name.Version ⟼ quoted version ∷ [])

-- one mount, by its name
abbrev pub mount_entry : MountObject → Text × Text
mount_entry m = (
  m.name,
  object_of (name.Options ⟼ options_object m.version ∷ name.TypeName ⟼ quoted m.type_name ∷ []),
)

-- mounts, in the order in which they are given
unfoldable pub mounts_object : List MountObject → Text
mounts_object ms = object_of (map mount_entry ms)

-- ---- leases (Vault's documentation, "/sys/leases", read lease)

-- a lease that is looked up; it can always be renewed
unfoldable pub lease_object : LeaseObject → Text
lease_object l =
    object_of (
    name.ExpireTime ⟼ time l.ends
    ∷ name.Id ⟼ quoted l.id
    ∷ name.IssueTime ⟼ time l.issued
    ∷ name.LastRenewal ⟼ time_or null_text l.renewed
    ∷ name.Renewable ⟼ bool_text true
    ∷ name.Ttl ⟼ whole_number l.ttl
    ∷ [])

-- ---- issued credentials (this project's engine)

-- a role, by its longest time and its ttl, as they were given; 0 for one that was not
unfoldable pub role_object : ℕ → ℕ → Text
role_object max_ttl ttl = object_of (name.MaxTtl ⟼ whole_number max_ttl ∷ name.Ttl ⟼ whole_number ttl ∷ [])

-- a credential
unfoldable pub credential_object : Text → Text
credential_object credential = object_of (name.Credential ⟼ quoted credential ∷ [])

-- whether the lease of a credential still stands
unfoldable pub valid_object : Bool → Text
valid_object valid = object_of (name.Valid ⟼ bool_text valid ∷ [])

-- ---- responses that wait (Vault's documentation, "Response wrapping", "/sys/wrapping/lookup")

-- a response that waits, by the path of its request, when its wrapping token was made, and for how long it waits
unfoldable pub waiting_object : Text → ℕ → ℕ → Text
waiting_object path created ttl =
    object_of (
    name.CreationPath ⟼ quoted path
    ∷ name.CreationTime ⟼ time created
    ∷ name.CreationTtl ⟼ whole_number ttl
    ∷ [])

-- the accessor of the token that the reply made, if it made one
abbrev pub wrapped_accessor : Option Text → List (Text × Text)
wrapped_accessor None = []
wrapped_accessor (Some accessor) = name.WrappedAccessor ⟼ quoted accessor ∷ []

-- a wrapping token under which a reply waits
unfoldable pub wrap_object : WrapObject → Text
wrap_object w =
    object_of (
    name.Accessor ⟼ quoted w.accessor
    ∷ name.CreationPath ⟼ quoted w.creation_path
    ∷ name.CreationTime ⟼ time w.created
    ∷ name.Token ⟼ quoted w.token
    ∷ name.Ttl ⟼ whole_number w.ttl
    ∷ wrapped_accessor w.wrapped_accessor)
