-- The names of members of printed objects (Vault's documentation, "HTTP API").
use Rattle.broker_types.specs.Words.{codes, Text}
use Rattle.api_json.specs.declared.name.Name.{Name}
use Rattle.api_json.specs.declared.name.Name.TheVariants as name

-- a name's text; it stays folded in lists of members, since a proof reads each byte of an unfolded one
unfoldable pub name_text : Name → Text
name_text name.Accessor = codes "accessor"
name_text name.Auth = codes "auth"
name_text name.CasRequired = codes "cas_required"
name_text name.ClientToken = codes "client_token"
name_text name.CreatedTime = codes "created_time"
name_text name.CreationPath = codes "creation_path"
name_text name.CreationTime = codes "creation_time"
name_text name.CreationTtl = codes "creation_ttl"
name_text name.Credential = codes "credential"
name_text name.CurrentVersion = codes "current_version"
name_text name.CustomMetadata = codes "custom_metadata"
name_text name.Payload = codes "data"
name_text name.DeleteVersionAfter = codes "delete_version_after"
name_text name.DeletionTime = codes "deletion_time"
name_text name.Destroyed = codes "destroyed"
name_text name.EntityId = codes "entity_id"
name_text name.ExpireTime = codes "expire_time"
name_text name.ExplicitMaxTtl = codes "explicit_max_ttl"
name_text name.Id = codes "id"
name_text name.IssueTime = codes "issue_time"
name_text name.Keys = codes "keys"
name_text name.LastRenewal = codes "last_renewal"
name_text name.LeaseDuration = codes "lease_duration"
name_text name.LeaseId = codes "lease_id"
name_text name.MaxTtl = codes "max_ttl"
name_text name.MaxVersions = codes "max_versions"
name_text name.Meta = codes "meta"
name_text name.Metadata = codes "metadata"
name_text name.PolicyName = codes "name"
name_text name.NumUses = codes "num_uses"
name_text name.OldestVersion = codes "oldest_version"
name_text name.Options = codes "options"
name_text name.Orphan = codes "orphan"
name_text name.Period = codes "period"
name_text name.Policies = codes "policies"
name_text name.Policy = codes "policy"
name_text name.Renewable = codes "renewable"
name_text name.RequestId = codes "request_id"
name_text name.Token = codes "token"
name_text name.TokenPolicies = codes "token_policies"
name_text name.TokenType = codes "token_type"
name_text name.Ttl = codes "ttl"
name_text name.TypeName = codes "type"
name_text name.UpdatedTime = codes "updated_time"
name_text name.Valid = codes "valid"
name_text name.Version = codes "version"
name_text name.Versions = codes "versions"
name_text name.Warnings = codes "warnings"
name_text name.WrapInfo = codes "wrap_info"
name_text name.WrappedAccessor = codes "wrapped_accessor"

infix 80 ◌⟼◌
-- a name and its value, which is a JSON text
abbrev pub ◌⟼◌ : Name → Text → Text × Text
n ⟼ value = (name_text n, value)
