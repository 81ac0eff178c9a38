-- The law of why a request is refused that policies grant, as a statement: it is told that what it asks for is not
-- there, or that check-and-set does not let it pass (Vault's documentation, "HTTP API", HTTP status codes; "KV secrets
-- engine - version 2 (API)", "Token auth method (API)"; the engine that issues credentials, and the texts of refusals,
-- are this project's).
use Rattle.std.specs.Prelude.{◌≡◌, ◌≢◌, ◌⊎◌}
use Rattle.histories.specs.Common.{ℕ, true, Some, None, Ok, codes, Text, refused, get, Broker, Mount, lease_of, Key}
use Rattle.histories.specs.Common.{Token, Refusal, LeaseRenewal, SecretWrite, TokenRenewal, Command, command_of}
use Rattle.histories.specs.Common.{on_cubbyhole, on_issued, on_lease, on_policy, on_secret, on_token, Place, Reason}
use Rattle.histories.specs.Common.{Denial, CubbyholeCommand, IssuedCommand, LeaseCommand, PolicyCommand, SecretCommand}
use Rattle.histories.specs.Common.{TokenCommand}
use Rattle.histories.specs.History.{AreAsked, Asking, AskedAt, History, clocked}
use Rattle.histories.specs.Versions.{LacksVersion, named}
use Rattle.histories.specs.Callers.{IsAllowed}

-- Policies grant the request, which has no wrap TTL, and means the command.
pub record Asks (a : Asking) (command : Command) : Type 0 where
  pub granted : IsAllowed a
  pub no_ttl : a.ask.wrap_ttl ≡ 0
  pub means : command_of (clocked a).mounts a.ask ≡ Ok command

-- it is refused so
abbrev pub IsRefusedBy : Asking → Refusal → Type 0
IsRefusedBy a why = a.outcome.response ≡ refused why

-- no token has a lease of the id
abbrev pub LacksId : Asking → Text → Type 0
LacksId a lease_id = (q : Text) → lease_of (clocked a) q lease_id ≡ None

-- The write tells a version that is not the current one, which is 0 for a new secret. Its mount is there.
pub record FailsCheck (a : Asking) (p : Place) (asked : SecretWrite) : Type 0 where
  pub of_mount : Mount
  pub in_mount : get (clocked a).mounts p.mount ≡ Some of_mount
  pub told : ℕ
  pub tells : asked.cas ≡ Some told
  pub by_key : (key : Key) → get (clocked a).secrets (named p) ≡ Some key → told ≢ key.current
  pub by_none : get (clocked a).secrets (named p) ≡ None → told ≢ 0

-- The write tells none, but the secret or its mount wants to be told.
pub record LacksCheck (a : Asking) (p : Place) (asked : SecretWrite) : Type 0 where
  pub of_mount : Mount
  pub in_mount : get (clocked a).mounts p.mount ≡ Some of_mount
  pub tells_none : asked.cas ≡ None
  pub wanted : (of_mount.cas_required ≡ true)
      ⊎ ((key : Key) × (get (clocked a).secrets (named p) ≡ Some key) × (key.cas_required ≡ true))

pub record TellsWhy (history : History) : Type 0 where
  -- 404: a version, a secret, an object, a role or a policy that is not there
  pub version : (i : ℕ) (a : Asking) (p : Place) (n : ℕ) → AskedAt history i a
      → Asks a (on_secret p (SecretCommand.Read n))
      → LacksVersion a p n → IsRefusedBy a Refusal.NotFound
  pub secret : (i : ℕ) (a : Asking) (p : Place) → AskedAt history i a → Asks a (on_secret p SecretCommand.ShowMetadata)
      → get (clocked a).secrets (named p) ≡ None → IsRefusedBy a Refusal.NotFound
  pub object : (i : ℕ) (a : Asking) (path : Text) → AskedAt history i a
      → (h : Asks a (on_cubbyhole path CubbyholeCommand.Read)) → get (h.granted).own.cubbyhole path ≡ None
      → IsRefusedBy a Refusal.NotFound
  pub role : (i : ℕ) (a : Asking) (p : Place) → AskedAt history i a → Asks a (on_issued p IssuedCommand.ShowRole)
      → get (clocked a).roles (named p) ≡ None → IsRefusedBy a Refusal.NotFound
  pub policy : (i : ℕ) (a : Asking) (name : Text) → AskedAt history i a → Asks a (on_policy name PolicyCommand.Show)
      → name ≢ codes "root" → get (clocked a).policies name ≡ None → IsRefusedBy a Refusal.NotFound
  -- 403 `bad token`: a token to look up or to renew
  pub token : (i : ℕ) (a : Asking) (t : Text) → AskedAt history i a → Asks a (on_token (TokenCommand.LookUp t))
      → get (clocked a).tokens t ≡ None → IsRefusedBy a (Refusal.Forbidden Denial.BadToken)
  pub renewed_token : (i : ℕ) (a : Asking) (asked : TokenRenewal) → AskedAt history i a
      → Asks a (on_token (TokenCommand.Renew asked)) → get (clocked a).tokens asked.token ≡ None
      → IsRefusedBy a (Refusal.Forbidden Denial.BadToken)
  -- 400: a token to renew that has no end, a lease to look up or to renew that is not there
  pub endless : (i : ℕ) (a : Asking) (asked : TokenRenewal) (x : Token) → AskedAt history i a
      → Asks a (on_token (TokenCommand.Renew asked)) → get (clocked a).tokens asked.token ≡ Some x → x.ends ≡ None
      → IsRefusedBy a (Refusal.BadRequest Reason.TokenNotRenewable)
  pub lease : (i : ℕ) (a : Asking) (prefix lease_id : Text) → AskedAt history i a
      → Asks a (on_lease prefix (LeaseCommand.LookUp lease_id)) → LacksId a lease_id
      → IsRefusedBy a (Refusal.BadRequest Reason.InvalidLease)
  pub renewed_lease : (i : ℕ) (a : Asking) (prefix : Text) (asked : LeaseRenewal) → AskedAt history i a
      → Asks a (on_lease prefix (LeaseCommand.Renew asked)) → LacksId a asked.lease_id
      → IsRefusedBy a (Refusal.BadRequest Reason.InvalidLease)
  -- and 400: a write that tells another version than the current one, or none where it should
  pub compared : (i : ℕ) (a : Asking) (p : Place) (asked : SecretWrite) → AskedAt history i a
      → Asks a (on_secret p (SecretCommand.Write asked)) → FailsCheck a p asked
      → IsRefusedBy a (Refusal.BadRequest Reason.CheckAndSetFailed)
  pub not_compared : (i : ℕ) (a : Asking) (p : Place) (asked : SecretWrite) → AskedAt history i a
      → Asks a (on_secret p (SecretCommand.Write asked)) → LacksCheck a p asked
      → IsRefusedBy a (Refusal.BadRequest Reason.CheckAndSetRequired)

-- whatever the first broker is
abbrev pub AllTellWhy : Type 0
AllTellWhy = (b : Broker) (history : History) → AreAsked b history → TellsWhy history
