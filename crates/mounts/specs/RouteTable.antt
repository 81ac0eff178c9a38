-- The table of routes: for each type of mounts the verb, the pattern of the path within the mount, and the operation
-- (Vault's documentation, "HTTP API"). Rows of one pattern stand together. A route that is not served has no row. What
-- each operation asks for before its body is read; and which take a name or a path from the path of their request (this
-- project's definition).
use Rattle.std.specs.Prelude.{◌∷◌, List, [], Bool, true, false, codes}
use Rattle.broker_types.specs.declared.ask.Verb.TheVariants as verb
use Rattle.mounts.specs.declared.mount_type.MountType.{MountType}
use Rattle.mounts.specs.declared.mount_type.MountType.TheVariants as mount
use Rattle.mounts.specs.declared.operation.CubbyholeOperation.{CubbyholeOperation}
use Rattle.mounts.specs.declared.operation.Facts.{Facts}
use Rattle.mounts.specs.declared.operation.Operation.{Operation}
use Rattle.mounts.specs.declared.operation.Operation.TheVariants.{Cubbyholes, Tokens, Secrets, Policies, Mounts, Leases}
use Rattle.mounts.specs.declared.operation.Operation.TheVariants.{Issued, Wrappings}
use Rattle.mounts.specs.declared.operation.CubbyholeOperation.TheVariants as cubbyhole
use Rattle.mounts.specs.declared.operation.IssuedOperation.{IssuedOperation}
use Rattle.mounts.specs.declared.operation.IssuedOperation.TheVariants as issued
use Rattle.mounts.specs.declared.operation.LeaseOperation.{LeaseOperation}
use Rattle.mounts.specs.declared.operation.LeaseOperation.TheVariants as lease
use Rattle.mounts.specs.declared.operation.MountOperation.{MountOperation}
use Rattle.mounts.specs.declared.operation.MountOperation.TheVariants as mounting
use Rattle.mounts.specs.declared.operation.Opens.{Opens}
use Rattle.mounts.specs.declared.operation.Opens.TheVariants.{Never, Always, WithItsOwn}
use Rattle.mounts.specs.declared.operation.PolicyOperation.{PolicyOperation}
use Rattle.mounts.specs.declared.operation.PolicyOperation.TheVariants as policy
use Rattle.mounts.specs.declared.operation.SecretOperation.{SecretOperation}
use Rattle.mounts.specs.declared.operation.SecretOperation.TheVariants as secret
use Rattle.mounts.specs.declared.operation.Stores.{Stores}
use Rattle.mounts.specs.declared.operation.Stores.TheVariants.{Nothing, Object, Secret}
use Rattle.mounts.specs.declared.operation.TokenOperation.{TokenOperation}
use Rattle.mounts.specs.declared.operation.TokenOperation.TheVariants as token
use Rattle.mounts.specs.declared.operation.WrappingOperation.{WrappingOperation}
use Rattle.mounts.specs.declared.operation.WrappingOperation.TheVariants as wrapping
use Rattle.mounts.specs.RouteRow.{RouteRow, on}

-- the rows of a type of mounts
abbrev pub route_rows : MountType → List RouteRow
route_rows mount.Token =
    on verb.Write (codes "token/create") (Tokens token.Create)
    ∷ on verb.Write (codes "token/create-orphan") (Tokens token.CreateOrphan)
    ∷ on verb.Write (codes "token/lookup") (Tokens token.LookUp)
    ∷ on verb.Get (codes "token/lookup-self") (Tokens token.LookUpSelf)
    ∷ on verb.Write (codes "token/lookup-accessor") (Tokens token.LookUpAccessor)
    ∷ on verb.Write (codes "token/renew") (Tokens token.Renew)
    ∷ on verb.Write (codes "token/renew-self") (Tokens token.RenewSelf)
    ∷ on verb.Write (codes "token/revoke") (Tokens token.Revoke)
    ∷ on verb.Write (codes "token/revoke-orphan") (Tokens token.RevokeOrphan)
    ∷ on verb.Write (codes "token/revoke-self") (Tokens token.RevokeSelf)
    ∷ on verb.Write (codes "token/revoke-accessor") (Tokens token.RevokeAccessor)
    ∷ on verb.List (codes "token/accessors") (Tokens token.ListAccessors)
    ∷ []
route_rows mount.System =
    on verb.Write (codes "leases/lookup") (Leases lease.LookUp)
    ∷ on verb.Write (codes "leases/renew") (Leases lease.Renew)
    ∷ on verb.Write (codes "leases/revoke") (Leases lease.Revoke)
    ∷ on verb.Write (codes "leases/revoke-prefix/{*path}") (Leases lease.RevokeUnder)
    ∷ on verb.Get (codes "mounts") (Mounts mounting.List)
    ∷ on verb.Write (codes "mounts/{name}") (Mounts mounting.Enable)
    ∷ on verb.Delete (codes "mounts/{name}") (Mounts mounting.Disable)
    ∷ on verb.List (codes "policies/acl") (Policies policy.List)
    ∷ on verb.Get (codes "policies/acl/{name}") (Policies policy.Show)
    ∷ on verb.Write (codes "policies/acl/{name}") (Policies policy.Set)
    ∷ on verb.Delete (codes "policies/acl/{name}") (Policies policy.Remove)
    ∷ on verb.Write (codes "wrapping/lookup") (Wrappings wrapping.LookUp)
    ∷ on verb.Write (codes "wrapping/rewrap") (Wrappings wrapping.Rewrap)
    ∷ on verb.Write (codes "wrapping/unwrap") (Wrappings wrapping.Unwrap)
    ∷ on verb.Write (codes "wrapping/wrap") (Wrappings wrapping.Wrap)
    ∷ []
route_rows mount.Cubbyhole =
    on verb.List (codes "") (Cubbyholes cubbyhole.List)
    ∷ on verb.Get (codes "{*path}") (Cubbyholes cubbyhole.Read)
    ∷ on verb.List (codes "{*path}") (Cubbyholes cubbyhole.List)
    ∷ on verb.Write (codes "{*path}") (Cubbyholes cubbyhole.Write)
    ∷ on verb.Delete (codes "{*path}") (Cubbyholes cubbyhole.Delete)
    ∷ []
route_rows mount.Kv =
    on verb.Get (codes "config") (Secrets secret.ShowSettings)
    ∷ on verb.Write (codes "config") (Secrets secret.SetSettings)
    ∷ on verb.Get (codes "data/{*path}") (Secrets secret.Read)
    ∷ on verb.Write (codes "data/{*path}") (Secrets secret.Write)
    ∷ on verb.Delete (codes "data/{*path}") (Secrets secret.DeleteCurrent)
    ∷ on verb.Write (codes "delete/{*path}") (Secrets secret.Delete)
    ∷ on verb.Write (codes "undelete/{*path}") (Secrets secret.Undelete)
    ∷ on verb.Write (codes "destroy/{*path}") (Secrets secret.Destroy)
    ∷ on verb.List (codes "metadata") (Secrets secret.List)
    ∷ on verb.Get (codes "metadata/{*path}") (Secrets secret.ShowMetadata)
    ∷ on verb.List (codes "metadata/{*path}") (Secrets secret.List)
    ∷ on verb.Write (codes "metadata/{*path}") (Secrets secret.SetMetadata)
    ∷ on verb.Delete (codes "metadata/{*path}") (Secrets secret.Remove)
    ∷ []
route_rows mount.Issued =
    on verb.Get (codes "roles/{name}") (Issued issued.ShowRole)
    ∷ on verb.Write (codes "roles/{name}") (Issued issued.SetRole)
    ∷ on verb.Delete (codes "roles/{name}") (Issued issued.RemoveRole)
    ∷ on verb.Get (codes "creds/{name}") (Issued issued.Issue)
    ∷ on verb.Write (codes "verify") (Issued issued.Verify)
    ∷ []

-- ---- what an operation asks for before its body is read

-- whether the caller needs `sudo` too ("Policies", root-protected API endpoints)
abbrev pub token_sudo : TokenOperation → Bool
token_sudo token.RevokeOrphan = true
token_sudo token.ListAccessors = true
token_sudo _ = false

abbrev pub lease_sudo : LeaseOperation → Bool
lease_sudo lease.RevokeUnder = true
lease_sudo _ = false

-- Whether no caller is needed: for a look-up; and for a rewrap or an unwrap if the body names no token but the client
-- token ("/sys/wrapping/unwrap", where the client token may be the wrapping token; the rest is this project's).
abbrev pub wrapping_opens : WrappingOperation → Opens
wrapping_opens wrapping.LookUp = Always
wrapping_opens wrapping.Rewrap = WithItsOwn
wrapping_opens wrapping.Unwrap = WithItsOwn
wrapping_opens _ = Never

-- What is stored, so that a write asks for `create` where nothing is there ("Policies", capabilities). Every other
-- write asks for `update`, also where it makes something, as a token or a policy.
abbrev pub cubbyhole_stores : CubbyholeOperation → Stores
cubbyhole_stores cubbyhole.Write = Object
cubbyhole_stores _ = Nothing

abbrev pub secret_stores : SecretOperation → Stores
secret_stores secret.Write = Secret
secret_stores _ = Nothing

-- what most operations ask for
abbrev pub plain : Facts
plain = record { sudo = false; opens = Never; stores = Nothing }

-- what an operation asks for
abbrev pub facts : Operation → Facts
facts (Cubbyholes o) = record plain { stores = cubbyhole_stores o }
facts (Tokens o) = record plain { sudo = token_sudo o }
facts (Secrets o) = record plain { stores = secret_stores o }
facts (Policies o) = plain
facts (Mounts o) = plain
facts (Leases o) = record plain { sudo = lease_sudo o }
facts (Issued o) = plain
facts (Wrappings o) = record plain { opens = wrapping_opens o }

-- ---- what an operation takes from its path

-- whether the operation needs the path of a secret
abbrev pub takes_path : SecretOperation → Bool
takes_path secret.ShowSettings = false
takes_path secret.SetSettings = false
takes_path secret.List = false
takes_path _ = true

-- whether the operation needs the name of a policy
abbrev pub takes_name : PolicyOperation → Bool
takes_name policy.Show = true
takes_name policy.Set = true
takes_name policy.Remove = true
takes_name _ = false

-- whether the operation needs the name of a mount
abbrev pub takes_mount : MountOperation → Bool
takes_mount mounting.Enable = true
takes_mount mounting.Disable = true
takes_mount _ = false

-- whether the operation needs a prefix of leases
abbrev pub takes_prefix : LeaseOperation → Bool
takes_prefix lease.RevokeUnder = true
takes_prefix _ = false

-- whether the operation needs the name of a role
abbrev pub takes_role : IssuedOperation → Bool
takes_role issued.ShowRole = true
takes_role issued.SetRole = true
takes_role issued.RemoveRole = true
takes_role issued.Issue = true
takes_role _ = false

-- whether the operation needs what a path has in place of the parameter; a list of the whole mount has none
abbrev pub takes_parameter : Operation → Bool
takes_parameter (Cubbyholes cubbyhole.List) = false
takes_parameter (Cubbyholes _) = true
takes_parameter (Secrets o) = takes_path o
takes_parameter (Policies o) = takes_name o
takes_parameter (Mounts o) = takes_mount o
takes_parameter (Leases o) = takes_prefix o
takes_parameter (Issued o) = takes_role o
takes_parameter _ = false
