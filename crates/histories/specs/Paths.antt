-- What the paths mean of which the laws over histories speak by their commands (Vault's documentation, "Token auth
-- method (API)", "/sys/wrapping", "/sys/leases", "Cubbyhole secrets engine (API)").
use Rattle.std.specs.Prelude.{◌≡◌, ◌++◌, ◌∷◌}
use Rattle.histories.specs.Common.{ℕ, [], true, Option, Some, None, Result, Ok, codes, Members, object, compact_text}
use Rattle.histories.specs.Common.{Text, Map, Mount, ◌>>=◌, Ask, Refusal, are_bytes, body_members, TokenCreation}
use Rattle.histories.specs.Common.{Command, on_cubbyhole, on_lease, on_token, on_wrapping, command_of, meant_by}
use Rattle.histories.specs.Common.{read_as, read_none, token_meant, Verb, OfCaller, WithoutParent, CubbyholeCommand}
use Rattle.histories.specs.Common.{LeaseCommand, TokenCommand, Making, WrappingCommand}
use Rattle.api_json.specs.Readers as reader
use Rattle.histories.specs.LeasePaths.{AskedMeans}

-- POST and PUT of the path mean this, or are refused by it, whatever mounts there are
abbrev pub WrittenMeans : Text → (Ask → Result Command Refusal) → Type 0
WrittenMeans = AskedMeans Verb.Write

-- a command on the wrapping token that the body names, else on the client token
abbrev pub on_named : (Option Text → WrappingCommand) → Ask → Result Command Refusal
on_named command a =
    meant_by on_wrapping (read_as reader.wrapping_token (λ named. command (token_meant a.token named)) a.body)

-- a wrap of the object that the body is
abbrev pub on_object : Ask → Result Command Refusal
on_object a =
    meant_by on_wrapping (body_members a.body >>= (λ members. Ok
    (WrappingCommand.Wrap (compact_text (object members)))))

-- a command on tokens, by what the reader finds in the body
abbrev pub on_found : {X : Type 0} → (Members → Result X Refusal) → (X → TokenCommand) → Ask → Result Command Refusal
on_found read command a = meant_by on_token (read_as read command a.body)

-- one that takes nothing from the body, which is an object all the same
abbrev pub on_none : TokenCommand → Ask → Result Command Refusal
on_none command a = meant_by on_token (read_none command a.body)

-- one on leases, by what the reader finds in the body
abbrev pub on_found_lease : {X : Type 0} → (Members → Result X Refusal) → (X → LeaseCommand) → Ask
    → Result Command Refusal
on_found_lease read command a = meant_by (on_lease []) (read_as read command a.body)

-- a command at a path of the caller's cubbyhole, whatever the body is
abbrev pub on_path : Text → CubbyholeCommand → Ask → Result Command Refusal
on_path path command a = Ok (on_cubbyhole path command)

-- the path at which a token is made so
abbrev pub path_of : Making → Text
path_of OfCaller = codes "auth/token/create"
path_of WithoutParent = codes "auth/token/create-orphan"

-- An ask that means a creation is a POST or PUT of that path, if its own path is of bytes. So the path that was asked
-- tells how the token is made.
abbrev pub CreatesAtPath : Type 0
CreatesAtPath =
    (mounts : Map Mount) (a : Ask) (making : Making) (asked : TokenCreation) → are_bytes a.path ≡ true
    → command_of mounts a ≡ Ok (on_token (TokenCommand.Create making asked))
    → (a.verb ≡ Verb.Write) × (a.path ≡ path_of making)

-- Each of these paths means its command. So what a law says of a command, it says of the path.
pub record PathsMeanCommands : Type 0 where
  pub wrap : WrittenMeans (codes "sys/wrapping/wrap") on_object
  pub look_up : WrittenMeans (codes "sys/wrapping/lookup") (on_named WrappingCommand.LookUp)
  pub rewrap : WrittenMeans (codes "sys/wrapping/rewrap") (on_named WrappingCommand.Rewrap)
  pub unwrap : WrittenMeans (codes "sys/wrapping/unwrap") (on_named WrappingCommand.Unwrap)
  pub create : WrittenMeans (codes "auth/token/create") (on_found reader.token_creation (TokenCommand.Create OfCaller))
  pub create_orphan : WrittenMeans (codes "auth/token/create-orphan")
      (on_found reader.token_creation (TokenCommand.Create WithoutParent))
  pub revoke : WrittenMeans (codes "auth/token/revoke") (on_found reader.token TokenCommand.Revoke)
  pub revoke_self : WrittenMeans (codes "auth/token/revoke-self") (on_none TokenCommand.RevokeSelf)
  pub revoke_orphan : WrittenMeans (codes "auth/token/revoke-orphan") (on_found reader.token TokenCommand.RevokeOrphan)
  pub revoke_accessor : WrittenMeans (codes "auth/token/revoke-accessor")
      (on_found reader.accessor TokenCommand.RevokeAccessor)
  pub look_up_token : WrittenMeans (codes "auth/token/lookup") (on_found reader.token TokenCommand.LookUp)
  pub look_up_accessor : WrittenMeans (codes "auth/token/lookup-accessor")
      (on_found reader.accessor TokenCommand.LookUpAccessor)
  pub look_up_self : AskedMeans Verb.Get (codes "auth/token/lookup-self") (λ a. Ok (on_token TokenCommand.LookUpSelf))
  pub list_accessors : AskedMeans Verb.List (codes "auth/token/accessors")
      (λ a. Ok (on_token TokenCommand.ListAccessors))
  pub renew : WrittenMeans (codes "auth/token/renew") (on_found reader.token_renewal TokenCommand.Renew)
  pub renew_self : WrittenMeans (codes "auth/token/renew-self") (on_found reader.increment TokenCommand.RenewSelf)
  pub look_up_lease : WrittenMeans (codes "sys/leases/lookup") (on_found_lease reader.lease_id LeaseCommand.LookUp)
  pub renew_lease : WrittenMeans (codes "sys/leases/renew") (on_found_lease reader.lease_renewal LeaseCommand.Renew)
  -- So do those of a cubbyhole, at a path of bytes.
  pub read_object : (c : ℕ) (path : Text) → are_bytes (c ∷ path) ≡ true
      → AskedMeans Verb.Get (codes "cubbyhole/" ++ c ∷ path) (on_path (c ∷ path) CubbyholeCommand.Read)
  pub delete_object : (c : ℕ) (path : Text) → are_bytes (c ∷ path) ≡ true
      → AskedMeans Verb.Delete (codes "cubbyhole/" ++ c ∷ path) (on_path (c ∷ path) CubbyholeCommand.Delete)
  -- And the wrapping token that is meant is the one that the body names, else the client token; an empty text names
  -- none.
  pub named : (client : Option Text) (c : ℕ) (t : Text) → token_meant client (Some (c ∷ t)) ≡ Some (c ∷ t)
  pub not_named : (client : Option Text) → (token_meant client None ≡ client) × (token_meant client (Some []) ≡ client)
