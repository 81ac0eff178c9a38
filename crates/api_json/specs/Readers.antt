-- What the body of each route brings, member by member: the first bad member is refused (this profile's members).
use Rattle.std.specs.Prelude.{◌∷◌, ◌==◌, ◌||◌, ◌&&◌, if◌then◌else◌, ℕ, List, [], Bool, true, false, length, nat_le, Ok}
use Rattle.broker_types.specs.Words.{codes, Option, Some, None, unwrap_or, Result, Err, list_all, most_custom_metadata}
use Rattle.broker_types.specs.Words.{longest_custom_name, longest_custom_value, Text, same, ◌>>=◌, some_or, unless}
use Rattle.serde_json.specs.Data.{Members}
use Rattle.broker_types.specs.declared.refusal.Refusal.{Refusal}
use Rattle.broker_types.specs.declared.refusal.Field.TheVariants as field
use Rattle.broker_types.specs.declared.refusal.Refusal.TheVariants as refusal
use Rattle.broker_types.specs.declared.refusal.Reason.TheVariants as reason
use Rattle.api_json.specs.Kinds as kind
use Rattle.api_json.specs.Members.{optional, required, within, payload, invalid, missing}
use Rattle.api_json.specs.declared.token_bodies.TokenCreation.{TokenCreation}
use Rattle.api_json.specs.declared.token_bodies.TokenRenewal.{TokenRenewal}
use Rattle.api_json.specs.declared.secret_bodies.SecretWrite.{SecretWrite}
use Rattle.api_json.specs.declared.secret_bodies.MountSettings.{MountSettings}
use Rattle.api_json.specs.declared.secret_bodies.KeySettings.{KeySettings}
use Rattle.api_json.specs.declared.mount_bodies.MountCreation.{MountCreation}
use Rattle.api_json.specs.declared.lease_bodies.LeaseRenewal.{LeaseRenewal}
use Rattle.api_json.specs.declared.issued_bodies.RoleSettings.{RoleSettings}

-- ---- tokens (Vault's documentation, "Token auth method (API)")

-- the token can be renewed; one that cannot is not served
abbrev pub is_renewable : Option Bool → Bool
is_renewable o = unwrap_or o true

-- no text; an id of the caller's choice is not served
abbrev pub is_empty : Option Text → Bool
is_empty o = length (unwrap_or o []) == 0

-- the type `service`, or none; no other type is served
abbrev pub is_service : Option Text → Bool
is_service o = is_empty o || same (unwrap_or o []) (codes "service")

-- The members of a new token. An absent list is empty, an absent number 0 and an absent truth value false; only
-- `renewable` is true if it is absent. The last three are refused unless they say what their absence says.
unfoldable pub token_creation : Members → Result TokenCreation Refusal
token_creation ms = do
  policies ← optional kind.as_texts field.Policies ms
  meta ← optional kind.as_pairs field.Meta ms
  ttl ← optional kind.as_duration field.Ttl ms
  explicit_max_ttl ← optional kind.as_duration field.ExplicitMaxTtl ms
  num_uses ← optional kind.as_count field.NumUses ms
  no_parent ← optional kind.as_flag field.NoParent ms
  no_default_policy ← optional kind.as_flag field.NoDefaultPolicy ms
  period ← optional kind.as_duration field.Period ms
  renewable ← optional kind.as_flag field.Renewable ms
  _ ← unless (is_renewable renewable) (invalid field.Renewable)
  id ← optional kind.as_text field.Id ms
  _ ← unless (is_empty id) (invalid field.Id)
  type_name ← optional kind.as_text field.TypeName ms
  _ ← unless (is_service type_name) (invalid field.TypeName)
  Ok (record {
    policies = unwrap_or policies [];
    meta = unwrap_or meta [];
    ttl = unwrap_or ttl 0;
    explicit_max_ttl = unwrap_or explicit_max_ttl 0;
    num_uses = unwrap_or num_uses 0;
    no_parent = unwrap_or no_parent false;
    no_default_policy = unwrap_or no_default_policy false;
    period = unwrap_or period 0;
  })

-- the token that a body names: the member `token`, which must be there
unfoldable pub token : Members → Result Text Refusal
token ms = required kind.as_text field.Token ms

-- the accessor that a body names: the member `accessor`, which must be there
unfoldable pub accessor : Members → Result Text Refusal
accessor ms = required kind.as_text field.Accessor ms

-- for how long the caller's token is renewed: the member `increment`; 0, or absent, is for the time that the token was
-- made for
unfoldable pub increment : Members → Result ℕ Refusal
increment ms = do
  increment ← optional kind.as_duration field.Increment ms
  Ok (unwrap_or increment 0)

-- which token is renewed, and for how long: the members `token`, which must be there, and `increment`
unfoldable pub token_renewal : Members → Result TokenRenewal Refusal
token_renewal ms = do
  token ← token ms
  increment ← increment ms
  Ok (record { token = token; increment = increment })

-- ---- secrets (Vault's documentation, "KV secrets engine - version 2 (API)")

-- A secret that is written: the member `data`, which must be an object, and `cas` of the member `options`, which may
-- both be absent. A `data` of another kind is refused as an absent one.
unfoldable pub secret_write : Members → Result SecretWrite Refusal
secret_write ms = do
  object ← some_or (refusal.BadRequest reason.NoData) (payload ms)
  options ← optional kind.as_members field.Options ms
  cas ← within (optional kind.as_count field.Cas) options
  Ok (record { object = object; cas = cas })

-- an empty list is refused as an absent one
abbrev pub one_or_more : List ℕ → Result (List ℕ) Refusal
one_or_more [] = Err (missing field.Versions)
one_or_more (n ∷ ns) = Ok (n ∷ ns)

-- the versions that a body names, one or more: the member `versions`, which must be there
unfoldable pub versions : Members → Result (List ℕ) Refusal
versions ms = do
  versions ← required kind.as_counts field.Versions ms
  one_or_more versions

-- The version that a query asks for, by what follows `version=`: 1 to 18 digits. 0, and nothing at all, is the current
-- version.
unfoldable pub version_number : List ℕ → Result ℕ Refusal
version_number text =
    if length text == 0 then Ok 0 else some_or (invalid field.Version) (kind.count_text text)

-- the settings of a mount of secrets; what is absent stays as it is
unfoldable pub mount_settings : Members → Result MountSettings Refusal
mount_settings ms = do
  cas_required ← optional kind.as_flag field.CasRequired ms
  max_versions ← optional kind.as_count field.MaxVersions ms
  _ ← optional kind.as_deletion_time field.DeleteVersionAfter ms
  Ok (record { cas_required = cas_required; max_versions = max_versions })

-- a name and a value that are accepted as custom metadata: a name is not empty, and neither is too long
abbrev pub is_custom_pair : Text × Text → Bool
is_custom_pair e =
    nat_le 1 (length e.0) && (nat_le (length e.0) longest_custom_name && nat_le (length e.1) longest_custom_value)

-- custom metadata that are accepted: none, or not too many
abbrev pub is_custom : Option (List (Text × Text)) → Bool
is_custom None = true
is_custom (Some es) = nat_le (length es) most_custom_metadata && list_all is_custom_pair es

-- the settings of one secret; what is absent stays as it is
unfoldable pub key_settings : Members → Result KeySettings Refusal
key_settings ms = do
  custom_metadata ← optional kind.as_pairs field.CustomMetadata ms
  _ ← unless (is_custom custom_metadata) (invalid field.CustomMetadata)
  max_versions ← optional kind.as_count field.MaxVersions ms
  cas_required ← optional kind.as_flag field.CasRequired ms
  _ ← optional kind.as_deletion_time field.DeleteVersionAfter ms
  Ok (record { custom_metadata = custom_metadata; max_versions = max_versions; cas_required = cas_required })

-- ---- policies (Vault's documentation, "/sys/policies")

-- the text of a policy: the member `policy`, which must be there
unfoldable pub policy_text : Members → Result Text Refusal
policy_text ms = required kind.as_text field.Policy ms

-- ---- mounts (Vault's documentation, "/sys/mounts")

-- A mount that is enabled: its type, the member `type`, which must be there, and `version` of the member `options`,
-- which may both be absent.
unfoldable pub mount_creation : Members → Result MountCreation Refusal
mount_creation ms = do
  type_name ← required kind.as_text field.TypeName ms
  options ← optional kind.as_members field.Options ms
  version ← within (optional kind.as_count field.Version) options
  Ok (record { type_name = type_name; version = version })

-- ---- leases (Vault's documentation, "/sys/leases")

-- the id of a lease that a body names: the member `lease_id`, which must be there
unfoldable pub lease_id : Members → Result Text Refusal
lease_id ms = required kind.as_text field.LeaseId ms

-- which lease is renewed, and for how long: the members `lease_id`, which must be there, and `increment`; 0, or absent,
-- is for the time that the lease was made for
unfoldable pub lease_renewal : Members → Result LeaseRenewal Refusal
lease_renewal ms = do
  lease_id ← lease_id ms
  increment ← increment ms
  Ok (record { lease_id = lease_id; increment = increment })

-- ---- issued credentials (this project's engine)

-- a role: the members `ttl` and `max_ttl`; an absent one is 0
unfoldable pub role_settings : Members → Result RoleSettings Refusal
role_settings ms = do
  ttl ← optional kind.as_duration field.Ttl ms
  max_ttl ← optional kind.as_duration field.MaxTtl ms
  Ok (record { ttl = unwrap_or ttl 0; max_ttl = unwrap_or max_ttl 0 })

-- the credential that a body names: the member `credential`, which must be there
unfoldable pub credential : Members → Result Text Refusal
credential ms = required kind.as_text field.Credential ms

-- ---- responses that wait (Vault's documentation, "/sys/wrapping")

-- the wrapping token that a body names, if it names one: the member `token`
unfoldable pub wrapping_token : Members → Result (Option Text) Refusal
wrapping_token ms = optional kind.as_text field.Token ms
