-- The law that what is allowed is done, as a statement: some requests are refused only where policies refuse them, and
-- the others only where what they ask for is not there or may not be made (Vault's documentation, "Tokens"; "Token auth
-- method (API)"; "Lease, renew, and revoke"; "Response wrapping"; "/sys/policies"; "/sys/mounts"; "KV secrets engine -
-- version 2 (API)"; "Cubbyhole secrets engine (API)"; the engine that issues credentials is this project's).
use Rattle.std.specs.Prelude.{◌≡◌, ◌≢◌, ◌⊎◌, ◌<◌, ◌++◌, ◌∷◌}
use Rattle.histories.specs.Common.{nat_eq, ℕ, List, [], Bool, true, false, Some, None, Ok, ⊤, codes, IsDistinct}
use Rattle.histories.specs.Common.{starts_with, Text, same, get, Broker, Engine, Mount, Role, Waiting, IsNew, is_name}
use Rattle.histories.specs.Common.{names_of, lease_of, Key, Version, status_code, Lease, Token, has, slash, is_policy}
use Rattle.histories.specs.Common.{LeaseRenewal, MountCreation, SecretWrite, TokenCreation, TokenRenewal, Command}
use Rattle.histories.specs.Common.{command_of, on_cubbyhole, on_issued, on_lease, on_secret, on_token, on_mount}
use Rattle.histories.specs.Common.{on_policy, on_wrapping, no_content, ok, is_open, Place, Status, WithoutParent}
use Rattle.histories.specs.Common.{SecretCommand, TokenCommand, WrappingCommand, Making, CubbyholeCommand}
use Rattle.histories.specs.Common.{IssuedCommand, LeaseCommand, MountCommand, PolicyCommand}
use Rattle.histories.specs.History.{AreAsked, Asking, AskedAt, History, clocked}
use Rattle.histories.specs.Creations.{AsksNoEnd, HasRoot, HasSudo}
use Rattle.histories.specs.Callers.{IsAllowed}
use Rattle.histories.specs.KeptResponses.{unwrapped_answer}
use Rattle.histories.specs.Paths.{path_of}
use Rattle.histories.specs.Settings.{MeansEngine}
use Rattle.histories.specs.Shown.{IsAccessorOf}
use Rattle.histories.specs.Versions.{named}

-- ---- commands that are never refused

-- an object that has members, and a deletion
abbrev pub cubbyhole_is_done : CubbyholeCommand → Bool
cubbyhole_is_done (CubbyholeCommand.Write (Some text)) = true
cubbyhole_is_done CubbyholeCommand.Delete = true
cubbyhole_is_done _ = false

-- a revocation by a text, or of the client token
abbrev pub token_is_done : TokenCommand → Bool
token_is_done (TokenCommand.Revoke t) = true
token_is_done (TokenCommand.RevokeOrphan t) = true
token_is_done TokenCommand.RevokeSelf = true
token_is_done _ = false

abbrev pub secret_is_done : SecretCommand → Bool
secret_is_done (SecretCommand.SetSettings asked) = true
secret_is_done SecretCommand.DeleteCurrent = true
secret_is_done (SecretCommand.Delete ns) = true
secret_is_done (SecretCommand.Undelete ns) = true
secret_is_done (SecretCommand.Destroy ns) = true
secret_is_done (SecretCommand.SetMetadata asked) = true
secret_is_done SecretCommand.Remove = true
secret_is_done _ = false

abbrev pub lease_is_done : LeaseCommand → Bool
lease_is_done (LeaseCommand.Revoke id) = true
lease_is_done LeaseCommand.RevokeUnder = true
lease_is_done _ = false

abbrev pub issued_is_done : IssuedCommand → Bool
issued_is_done IssuedCommand.RemoveRole = true
issued_is_done _ = false

-- whether a command is carried out wherever it is allowed
abbrev pub is_done : Command → Bool
is_done (on_cubbyhole path command) = cubbyhole_is_done command
is_done (on_token command) = token_is_done command
is_done (on_secret place command) = secret_is_done command
is_done (on_lease prefix command) = lease_is_done command
is_done (on_issued place command) = issued_is_done command
is_done _ = false

-- ---- what is there

-- The version that is asked for, or the current one if 0 is, is kept, and neither deleted nor destroyed.
pub record HasVersion (a : Asking) (p : Place) (asked : ℕ) : Type 0 where
  pub key : Key
  pub there : get (clocked a).secrets (named p) ≡ Some key
  pub number : ℕ
  pub by_number : asked ≢ 0 → number ≡ asked
  pub by_current : asked ≡ 0 → number ≡ key.current
  pub version : Version
  pub is_kept : get key.versions number ≡ Some version
  pub not_deleted : version.deleted ≡ None
  pub not_destroyed : version.secret ≢ None

-- The write tells the current version, which is 0 for a new secret; or it tells none, and neither the secret nor its
-- mount, which is there, wants to be told. And there is a number for one more.
pub record MayWrite (a : Asking) (p : Place) (asked : SecretWrite) : Type 0 where
  pub of_mount : Mount
  pub in_mount : get (clocked a).mounts p.mount ≡ Some of_mount
  pub current : ℕ
  pub by_key : (key : Key) → get (clocked a).secrets (named p) ≡ Some key → current ≡ key.current
  pub by_none : get (clocked a).secrets (named p) ≡ None → current ≡ 0
  pub told : (asked.cas ≡ Some current)
      ⊎ ((asked.cas ≡ None) × (of_mount.cas_required ≡ false)
      × ((key : Key) → get (clocked a).secrets (named p) ≡ Some key → key.cas_required ≡ false))
  pub low : current < 999999999999999999

-- a token has a lease of this id
abbrev pub HasLease : Asking → Text → Type 0
HasLease a lease_id = (t : Text) × (l : Lease) × (lease_of (clocked a) t lease_id ≡ Some l)

-- a token, or the wrapping token of a response that waits, has the accessor
abbrev pub HasAccessor : Asking → Text → Type 0
HasAccessor a accessor =
    IsAccessorOf a accessor
    ⊎ ((t : Text) × (w : Waiting) × (get (clocked a).waiting t ≡ Some w) × (w.accessor ≡ accessor))

-- The name is below the path in the mount, or in it where the path is empty.
pub record IsBelow (p : Place) (q : Text) : Type 0 where
  pub below : p.path ≢ [] → starts_with nat_eq q (p.mount ++ slash ∷ (p.path ++ slash ∷ [])) ≡ true
  pub inside : p.path ≡ [] → starts_with nat_eq q (p.mount ++ slash ∷ []) ≡ true

-- What the command shows is there: for the list of a folder, something below it. The client token and `root` always
-- are, and so are the lists of accessors, of policies and of mounts, and whether a credential is valid.
abbrev pub ShowsThere : Asking → Command → Type 0
ShowsThere a (on_token TokenCommand.LookUpSelf) = ⊤
ShowsThere a (on_token (TokenCommand.LookUpAccessor accessor)) = IsAccessorOf a accessor
ShowsThere a (on_token TokenCommand.ListAccessors) = ⊤
ShowsThere a (on_lease prefix (LeaseCommand.LookUp lease_id)) = HasLease a lease_id
ShowsThere a (on_policy name PolicyCommand.List) = ⊤
ShowsThere a (on_policy name PolicyCommand.Show) = (name ≡ codes "root") ⊎ (get (clocked a).policies name ≢ None)
ShowsThere a (on_mount name MountCommand.List) = ⊤
ShowsThere a (on_issued place (IssuedCommand.Verify credential)) = ⊤
ShowsThere a (on_issued place IssuedCommand.ShowRole) = get (clocked a).roles (named place) ≢ None
ShowsThere a (on_secret place SecretCommand.ShowSettings) = get (clocked a).mounts place.mount ≢ None
ShowsThere a (on_secret place SecretCommand.List) =
    (q : Text) × (get (clocked a).secrets q ≢ None) × IsBelow place q
ShowsThere a (on_secret place SecretCommand.ShowMetadata) = get (clocked a).secrets (named place) ≢ None
ShowsThere a _ = ⊥

-- ---- what is new

-- Neither identifier was given out before, and they differ.
pub record AreNew (a : Asking) (one other : Text) : Type 0 where
  pub one_is_new : IsNew (clocked a) one
  pub other_is_new : IsNew (clocked a) other
  pub differ : one ≢ other

-- The identifiers that the request's words make, but that of its reply.
abbrev pub identifiers_made : Asking → List Text
identifiers_made a =
    let names = names_of a.words in
    names.wrapping_token ∷ names.wrapping_accessor ∷ names.token ∷ names.accessor ∷ names.lease ∷ names.credential ∷ []

-- None of them was given out before, and no two are the same.
pub record AllNew (a : Asking) : Type 0 where
  pub new : (i : Text) → has (identifiers_made a) i ≡ true → IsNew (clocked a) i
  pub differ : IsDistinct same (identifiers_made a)

-- ---- what may be changed

-- There is no mount of this name, which is one and not reserved, and the type that is asked for means an engine.
pub record MayEnable (a : Asking) (name : Text) (asked : MountCreation) : Type 0 where
  pub is_name : is_name name ≡ true
  pub free : get (clocked a).mounts name ≡ None
  pub unreserved : (name ≢ codes "sys") × (name ≢ codes "auth") × (name ≢ codes "cubbyhole")
      × (name ≢ codes "identity")
  pub engine : Engine
  pub means : MeansEngine asked engine

-- The names and the text are of the right form, and what is fixed stays.
abbrev pub MayChange : Asking → Command → Type 0
MayChange a (on_policy name (PolicyCommand.Set text)) =
    (is_name name ≡ true) × (name ≢ codes "root") × (is_policy text ≡ true)
MayChange a (on_policy name PolicyCommand.Remove) = (name ≢ codes "root") × (name ≢ codes "default")
MayChange a (on_issued place (IssuedCommand.SetRole asked)) = is_name place.path ≡ true
MayChange a (on_mount name (MountCommand.Enable asked)) = MayEnable a name asked
MayChange a (on_mount name MountCommand.Disable) =
    (name ≢ codes "sys") × (name ≢ codes "auth") × (name ≢ codes "cubbyhole")
MayChange a _ = ⊥

-- ---- what may be made

-- It asks for policies of the token x, for no period, and for a token without parent only where all are made so.
pub record AsksItsOwn (x : Token) (making : Making) (asked : TokenCreation) : Type 0 where
  pub policies : (p : Text) → has asked.policies p ≡ true → has x.policies p ≡ true
  pub period : asked.period ≡ 0
  pub parent : (asked.no_parent ≡ false) ⊎ (making ≡ WithoutParent)

-- It asks for no root token: not for `root`, and for some policies, unless the token x is no root token itself.
abbrev pub AsksNoRoot : Token → TokenCreation → Type 0
AsksNoRoot x asked = (has asked.policies (codes "root") ≡ false) × ((asked.policies ≢ []) ⊎ (HasRoot x → ⊥))

-- The client token has no limit of uses. It is a root token, or has `sudo` on the path, or asks for its own. What it
-- asks for are names of policies, and `root` only if it is a root token. And it has no end, or asks for one, or for no
-- root token.
pub record MayCreate (a : Asking) (k : IsAllowed a) (making : Making) (asked : TokenCreation) : Type 0 where
  pub unlimited : k.own.uses_left ≡ None
  pub allowed : HasRoot k.own ⊎ (HasSudo (clocked a) k.own (path_of making) ⊎ AsksItsOwn k.own making asked)
  pub names : (p : Text) → has asked.policies p ≡ true → (has k.own.policies p ≡ true) ⊎ (is_name p ≡ true)
  pub root : has asked.policies (codes "root") ≡ true → HasRoot k.own
  pub ends : (k.own.ends ≡ None) ⊎ ((AsksNoEnd asked → ⊥) ⊎ AsksNoRoot k.own asked)

-- ---- the law

pub record DoesAllowed (history : History) : Type 0 where
  -- These commands are carried out. So a revocation that is allowed is not refused.
  pub done : (i : ℕ) (a : Asking) (command : Command) → AskedAt history i a → IsAllowed a → a.ask.wrap_ttl ≡ 0
      → command_of (clocked a).mounts a.ask ≡ Ok command → is_done command ≡ true → a.outcome.response ≡ no_content
  -- So are a revocation by an accessor that is there, and a change of a policy, a role or a mount that may be made.
  pub revokes_accessor : (i : ℕ) (a : Asking) (accessor : Text) → AskedAt history i a → IsAllowed a
      → a.ask.wrap_ttl ≡ 0 → command_of (clocked a).mounts a.ask ≡ Ok (on_token (TokenCommand.RevokeAccessor accessor))
      → HasAccessor a accessor → a.outcome.response ≡ no_content
  pub changes : (i : ℕ) (a : Asking) (command : Command) → AskedAt history i a → IsAllowed a → a.ask.wrap_ttl ≡ 0
      → command_of (clocked a).mounts a.ask ≡ Ok command → MayChange a command → a.outcome.response ≡ no_content
  -- With a wrap TTL and new identifiers, what is allowed has the status that it would have without, if that is below
  -- 400.
  pub wraps : (i : ℕ) (a : Asking) → AskedAt history i a → IsAllowed a → 0 < a.ask.wrap_ttl → AllNew a
      → status_code (unwrapped_answer a).status < 400 → a.outcome.response.status ≡ (unwrapped_answer a).status
  -- An unwrap of a response that waits, if it is allowed or needs no caller, hands it out, also with a wrap TTL.
  pub unwraps : (i : ℕ) (a : Asking) (t : Text) (w : Waiting) → AskedAt history i a
      → (is_open a.ask ≡ true) ⊎ IsAllowed a
      → command_of (clocked a).mounts a.ask ≡ Ok (on_wrapping (WrappingCommand.Unwrap (Some t)))
      → get (clocked a).waiting t ≡ Some w → a.outcome.response ≡ ok w.reply
  -- So a look-up of it is a 200, and a rewrap with new identifiers.
  pub looks_up_response : (i : ℕ) (a : Asking) (t : Text) (w : Waiting) → AskedAt history i a
      → (is_open a.ask ≡ true) ⊎ IsAllowed a
      → command_of (clocked a).mounts a.ask ≡ Ok (on_wrapping (WrappingCommand.LookUp (Some t)))
      → get (clocked a).waiting t ≡ Some w → a.outcome.response.status ≡ Status.Success
  pub rewraps : (i : ℕ) (a : Asking) (t : Text) (w : Waiting) → AskedAt history i a
      → (is_open a.ask ≡ true) ⊎ IsAllowed a
      → command_of (clocked a).mounts a.ask ≡ Ok (on_wrapping (WrappingCommand.Rewrap (Some t)))
      → get (clocked a).waiting t ≡ Some w
      → AreNew a (names_of a.words).wrapping_token (names_of a.words).wrapping_accessor
      → a.outcome.response.status ≡ Status.Success
  -- A read of a version that is there is a 200.
  pub reads : (i : ℕ) (a : Asking) (p : Place) (n : ℕ) → AskedAt history i a → IsAllowed a → a.ask.wrap_ttl ≡ 0
      → command_of (clocked a).mounts a.ask ≡ Ok (on_secret p (SecretCommand.Read n)) → HasVersion a p n
      → a.outcome.response.status ≡ Status.Success
  -- So is a write that check-and-set lets pass.
  pub writes : (i : ℕ) (a : Asking) (p : Place) (asked : SecretWrite) → AskedAt history i a → IsAllowed a
      → a.ask.wrap_ttl ≡ 0 → command_of (clocked a).mounts a.ask ≡ Ok (on_secret p (SecretCommand.Write asked))
      → MayWrite a p asked → a.outcome.response.status ≡ Status.Success
  -- So is a look-up of a token that is there, and a renewal of one that has an end.
  pub looks_up : (i : ℕ) (a : Asking) (t : Text) → AskedAt history i a → IsAllowed a → a.ask.wrap_ttl ≡ 0
      → command_of (clocked a).mounts a.ask ≡ Ok (on_token (TokenCommand.LookUp t)) → get (clocked a).tokens t ≢ None
      → a.outcome.response.status ≡ Status.Success
  pub renews : (i : ℕ) (a : Asking) (asked : TokenRenewal) (x : Token) → AskedAt history i a → IsAllowed a
      → a.ask.wrap_ttl ≡ 0 → command_of (clocked a).mounts a.ask ≡ Ok (on_token (TokenCommand.Renew asked))
      → get (clocked a).tokens asked.token ≡ Some x → x.ends ≢ None → a.outcome.response.status ≡ Status.Success
  -- So is a renewal of the client token, if it has an end, and one of a lease that a token has.
  pub renews_self : (i : ℕ) (a : Asking) (increment : ℕ) → AskedAt history i a → (k : IsAllowed a)
      → a.ask.wrap_ttl ≡ 0 → command_of (clocked a).mounts a.ask ≡ Ok (on_token (TokenCommand.RenewSelf increment))
      → k.own.ends ≢ None → a.outcome.response.status ≡ Status.Success
  pub renews_lease : (i : ℕ) (a : Asking) (prefix : Text) (asked : LeaseRenewal) → AskedAt history i a
      → IsAllowed a → a.ask.wrap_ttl ≡ 0
      → command_of (clocked a).mounts a.ask ≡ Ok (on_lease prefix (LeaseCommand.Renew asked))
      → HasLease a asked.lease_id
      → a.outcome.response.status ≡ Status.Success
  -- So is a creation that may be made, with new identifiers.
  pub creates : (i : ℕ) (a : Asking) (making : Making) (asked : TokenCreation) → AskedAt history i a
      → (k : IsAllowed a) → a.ask.wrap_ttl ≡ 0
      → command_of (clocked a).mounts a.ask ≡ Ok (on_token (TokenCommand.Create making asked))
      → MayCreate a k making asked
      → AreNew a (names_of a.words).token (names_of a.words).accessor → a.outcome.response.status ≡ Status.Success
  -- So are `creds` of a role that is there, with new identifiers, unless the client token has spent its last use.
  pub issues : (i : ℕ) (a : Asking) (p : Place) (r : Role) → AskedAt history i a → (k : IsAllowed a)
      → a.ask.wrap_ttl ≡ 0 → command_of (clocked a).mounts a.ask ≡ Ok (on_issued p IssuedCommand.Issue)
      → get (clocked a).roles (named p) ≡ Some r → k.own.uses_left ≢ Some 0
      → AreNew a (names_of a.words).lease (names_of a.words).credential → a.outcome.response.status ≡ Status.Success
  -- So are the lists and look-ups of what else is there.
  pub shows : (i : ℕ) (a : Asking) (command : Command) → AskedAt history i a → IsAllowed a → a.ask.wrap_ttl ≡ 0
      → command_of (clocked a).mounts a.ask ≡ Ok command → ShowsThere a command
      → a.outcome.response.status ≡ Status.Success
  -- And so are a read of an object that is in the cubbyhole of the client token, and a list of a folder there.
  pub reads_own : (i : ℕ) (a : Asking) (path : Text) → AskedAt history i a → (k : IsAllowed a) → a.ask.wrap_ttl ≡ 0
      → command_of (clocked a).mounts a.ask ≡ Ok (on_cubbyhole path CubbyholeCommand.Read)
      → get k.own.cubbyhole path ≢ None → a.outcome.response.status ≡ Status.Success
  pub lists_own : (i : ℕ) (a : Asking) (path q : Text) → AskedAt history i a → (k : IsAllowed a) → a.ask.wrap_ttl ≡ 0
      → command_of (clocked a).mounts a.ask ≡ Ok (on_cubbyhole path CubbyholeCommand.List)
      → get k.own.cubbyhole q ≢ None
      → (path ≡ []) ⊎ (starts_with nat_eq q (path ++ slash ∷ []) ≡ true)
      → a.outcome.response.status ≡ Status.Success

-- whatever the first broker is
abbrev pub AllDoAllowed : Type 0
AllDoAllowed = (b : Broker) (history : History) → AreAsked b history → DoesAllowed history
