-- The law of whose each lease is, and how long it lasts, as a statement (Vault's documentation, "Lease, renew, and
-- revoke"; "Tokens", use limits; the engine that issues credentials is this project's).
use Rattle.std.specs.Prelude.{◌≡◌, ◌≢◌, ◌⊎◌, ◌<◌, ◌+◌, ◌++◌, ◌∷◌}
use Rattle.histories.specs.Common.{ℕ, min, Some, None, Ok, codes, Text, get, Role, Token, Lease, WasBefore, names_of}
use Rattle.histories.specs.Common.{lease_of, slash, credential_object, lease_reply, reply_text, on_issued, command_of}
use Rattle.histories.specs.Common.{Place, Status, IssuedCommand}
use Rattle.histories.specs.History.{Asking, AskedAt, History, clocked}
use Rattle.histories.specs.KeptResponses.{unwrapped_body}
use Rattle.histories.specs.Revocation.{IsClient}

-- The lease is one of the role that is made now. It lasts at most as long as the role says, and 32 days if that says
-- nothing or more; it is made for as long as the role says, and for the longest if that says nothing or more.
pub record IsOfRole (now : ℕ) (r : Role) (l : Lease) : Type 0 where
  pub issued : l.issued ≡ now
  pub own_longest : r.max_ttl ≢ 0 → l.max_ttl ≡ min r.max_ttl 2764800
  pub longest : r.max_ttl ≡ 0 → l.max_ttl ≡ 2764800
  pub own_ttl : r.ttl ≢ 0 → l.ttl ≡ min r.ttl l.max_ttl
  pub whole_ttl : r.ttl ≡ 0 → l.ttl ≡ l.max_ttl
  pub ends : l.ends ≡ now + l.ttl
  pub renewed : l.renewed ≡ None

-- The request, whose client token is q, was a 200 to `creds`, wrapped or not. This was not the last use of q, if its
-- uses are limited. The lease is of the role that was asked for, as this was then; its id has the place of that role
-- and a word of the request, and its credential is another one.
pub record IsIssuedTo (a : Asking) (q lease_id : Text) (l : Lease) : Type 0 where
  pub client : IsClient a q
  pub place : Place
  pub means : command_of (clocked a).mounts a.ask ≡ Ok (on_issued place IssuedCommand.Issue)
  pub answered : a.outcome.response.status ≡ Status.Success
  pub own : Token
  pub there : get (clocked a).tokens q ≡ Some own
  pub lasting : (n : ℕ) → own.uses_left ≡ Some n → 1 < n
  pub role : Role
  pub is_role : get (clocked a).roles (place.mount ++ slash ∷ place.path) ≡ Some role
  pub times : IsOfRole (clocked a).clock role l
  pub id : lease_id ≡ place.mount ++ codes "/creds/" ++ place.path ++ codes "/" ++ (names_of a.words).lease
  pub credential : l.credential ≡ (names_of a.words).credential

-- The client token has a lease that was issued to it, by the role of this place; and the reply, without wrapping, has
-- its id, its length of time and its credential.
pub record GivesLease (a : Asking) (p : Place) : Type 0 where
  pub caller : Text
  pub lease_id : Text
  pub lease : Lease
  pub there : lease_of a.outcome.next caller lease_id ≡ Some lease
  pub issued : IsIssuedTo a caller lease_id lease
  pub place : issued.place ≡ p
  pub told : unwrapped_body a
      ≡ reply_text (lease_reply (names_of a.words).request lease_id lease.ttl
      (Some (credential_object lease.credential)))

pub record LeasesAreOfCallers (history : History) : Type 0 where
  -- Each lease after an event was the same token's at its clock, with the same credential, or was issued to that token.
  pub each : (i : ℕ) (a : Asking) (q lease_id : Text) (l : Lease) → AskedAt history i a
      → lease_of a.outcome.next q lease_id ≡ Some l → WasBefore (clocked a) q lease_id l ⊎ IsIssuedTo a q lease_id l
  -- And each 200 to `creds` issued one.
  pub given : (i : ℕ) (a : Asking) (p : Place) → AskedAt history i a
      → command_of (clocked a).mounts a.ask ≡ Ok (on_issued p IssuedCommand.Issue)
      → a.outcome.response.status ≡ Status.Success → GivesLease a p
