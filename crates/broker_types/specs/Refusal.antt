-- Refusals: their statuses, and their texts word for word (Vault's, if Vault has such a text; else this project's).
use Rattle.std.specs.Prelude.{[], ◌++◌, codes, Option, Some, None}
use Rattle.std.specs.Option.{option_map_or}
use Rattle.broker_types.specs.Text.{Text}
use Rattle.broker_types.specs.Status.{no_methods}
use Rattle.broker_types.specs.declared.status.Status.{Status}
use Rattle.broker_types.specs.declared.status.Status.TheVariants as status
use Rattle.broker_types.specs.declared.status.Methods.{Methods}
use Rattle.broker_types.specs.declared.refusal.Field.{Field}
use Rattle.broker_types.specs.declared.refusal.Field.TheVariants as field
use Rattle.broker_types.specs.declared.refusal.Reason.{Reason}
use Rattle.broker_types.specs.declared.refusal.Reason.TheVariants as reason
use Rattle.broker_types.specs.declared.refusal.Denial.{Denial}
use Rattle.broker_types.specs.declared.refusal.Denial.TheVariants as denial
use Rattle.broker_types.specs.declared.refusal.Refusal.{Refusal}
use Rattle.broker_types.specs.declared.refusal.Refusal.TheVariants as refusal

-- the name of a member
abbrev pub field_name : Field → Text
field_name field.Accessor = codes "accessor"
field_name field.Cas = codes "cas"
field_name field.CasRequired = codes "cas_required"
field_name field.Credential = codes "credential"
field_name field.CustomMetadata = codes "custom_metadata"
field_name field.DeleteVersionAfter = codes "delete_version_after"
field_name field.ExplicitMaxTtl = codes "explicit_max_ttl"
field_name field.Id = codes "id"
field_name field.Increment = codes "increment"
field_name field.LeaseId = codes "lease_id"
field_name field.MaxTtl = codes "max_ttl"
field_name field.MaxVersions = codes "max_versions"
field_name field.Meta = codes "meta"
field_name field.NoDefaultPolicy = codes "no_default_policy"
field_name field.NoParent = codes "no_parent"
field_name field.NumUses = codes "num_uses"
field_name field.Options = codes "options"
field_name field.Period = codes "period"
field_name field.Policies = codes "policies"
field_name field.Policy = codes "policy"
field_name field.Renewable = codes "renewable"
field_name field.Token = codes "token"
field_name field.Ttl = codes "ttl"
field_name field.TypeName = codes "type"
field_name field.Version = codes "version"
field_name field.Versions = codes "versions"

-- the text of a 400, but for the name of a member at its end
abbrev pub reason_opening : Reason → Text
reason_opening reason.MalformedRequest = codes "malformed request"
reason_opening reason.InvalidPath = codes "invalid path"
reason_opening reason.InvalidDuration = codes "invalid duration"
reason_opening reason.InvalidJson = codes "failed to parse JSON input"
reason_opening (reason.InvalidField f) = codes "invalid field: "
reason_opening (reason.MissingField f) = codes "missing field: "
reason_opening reason.NoData = codes "no data provided"
reason_opening reason.MissingData = codes "missing data fields"
reason_opening reason.InvalidName = codes "invalid name"
reason_opening reason.RestrictedToken = codes "restricted use token cannot generate child tokens"
reason_opening reason.RootByRootAlone = codes "only a root token can create root tokens"
reason_opening reason.PoliciesBeyondParent = codes "child policies must be subset of parent"
reason_opening reason.OrphanNeedsSudo = codes "root or sudo privileges required to create orphan token"
reason_opening reason.ExpiringRoot = codes "expiring root tokens cannot create non-expiring root tokens"
reason_opening reason.PeriodNeedsSudo = codes "root or sudo privileges required to create periodic token"
reason_opening reason.TokenNotRenewable = codes "lease is not renewable"
reason_opening reason.InvalidAccessor = codes "invalid accessor"
reason_opening reason.UnsupportedPolicy = codes "unsupported policy"
reason_opening reason.PolicyFixed = codes "policy cannot be changed"
reason_opening reason.CheckAndSetRequired = codes "check-and-set parameter required for this call"
reason_opening reason.CheckAndSetFailed = codes "check-and-set parameter did not match the current version"
reason_opening reason.PathInUse = codes "path is already in use"
reason_opening reason.UnsupportedMount = codes "unsupported mount"
reason_opening reason.MountFixed = codes "cannot be disabled"
reason_opening reason.LastUseTakesLease = codes "a last use cannot take a lease"
reason_opening reason.InvalidLease = codes "invalid lease"
reason_opening reason.WrappingRequired = codes "response wrapping is required"
reason_opening reason.InvalidWrappingToken = codes "wrapping token is not valid or does not exist"

-- the member that the text names at its end
abbrev pub reason_field : Reason → Option Field
reason_field (reason.InvalidField f) = Some f
reason_field (reason.MissingField f) = Some f
reason_field _ = None

-- the text of a 400
abbrev pub reason_text : Reason → Text
reason_text r = reason_opening r ++ option_map_or field_name (reason_field r) []

-- the text of a 403
abbrev pub denial_text : Denial → Text
denial_text denial.PermissionDenied = codes "permission denied"
denial_text denial.BadToken = codes "bad token"

-- the status of a refusal
abbrev pub refusal_status : Refusal → Status
refusal_status (refusal.BadRequest r) = status.BadRequest
refusal_status (refusal.Forbidden d) = status.Forbidden
refusal_status refusal.NotFound = status.NotFound
refusal_status (refusal.MethodNotAllowed ms) = status.MethodNotAllowed
refusal_status refusal.IdentifierUsed = status.InternalServerError

-- the methods of a 405
abbrev pub refusal_methods : Refusal → Methods
refusal_methods (refusal.MethodNotAllowed ms) = ms
refusal_methods _ = no_methods

-- the text of a refusal; a 404 has none
abbrev pub refusal_text : Refusal → Option Text
refusal_text (refusal.BadRequest r) = Some (reason_text r)
refusal_text (refusal.Forbidden d) = Some (denial_text d)
refusal_text refusal.NotFound = None
refusal_text (refusal.MethodNotAllowed ms) = Some (codes "unsupported operation")
refusal_text refusal.IdentifierUsed = Some (codes "identifier already used")

-- the text with which bytes that are not a request are refused, by the status (this project's texts)
abbrev pub cutting_text : Status → Option Text
cutting_text status.BadRequest = Some (codes "malformed request")
cutting_text status.PayloadTooLarge = Some (codes "request body too large")
cutting_text status.HeaderFieldsTooLarge = Some (codes "request head too large")
cutting_text _ = None

-- the body of a refusal: `{"errors":["text"]}` or `{"errors":[]}`, and a line feed (Vault's documentation, "HTTP API",
-- error response)
unfoldable pub errors_body : Option Text → Text
errors_body None = codes "{\"errors\":[]}\n"
errors_body (Some text) = codes "{\"errors\":[\"" ++ text ++ codes "\"]}\n"
