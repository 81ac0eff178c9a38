-- The law that what is another's stays, as a statement: what makes a token go, what may change of one that stands, and
-- who reads a cubbyhole (Vault's documentation, "Tokens"; "Lease, renew, and revoke"; "Cubbyhole secrets engine").
use Rattle.std.specs.Prelude.{◌≡◌, ◌≢◌, ◌⊎◌, ◌≤◌, ◌+◌}
use Rattle.histories.specs.Common.{ℕ, min, true, Option, Some, None, Ok, ⊤, Text, Map, get, keys, Token, Lease}
use Rattle.histories.specs.Common.{is_under, names_of, lease_of, children, folder, keys_object, plain_reply}
use Rattle.histories.specs.Common.{reply_text, LeaseRenewal, on_cubbyhole, on_lease, on_token, command_of, ok, Status}
use Rattle.histories.specs.Common.{CubbyholeCommand, LeaseCommand, TokenCommand}
use Rattle.histories.specs.Revocation.{IsClient, IsDue, IsMade, Revokes, RevokesAlone, WasToken}
use Rattle.histories.specs.History.{Asking, AskedAt, History, clocked, spent_by}
use Rattle.histories.specs.KeptResponses.{unwrapped_answer}
use Rattle.histories.specs.LeaseEnds.{RevokesLease}
use Rattle.histories.specs.LeaseOwners.{IsIssuedTo}

-- ---- what makes a token go

-- The request was a 204 to a revocation of a token that q is under, or of q alone.
pub record IsRevoked (a : Asking) (q : Text) : Type 0 where
  pub caller : Text
  pub how : ((t : Text) × Revokes a caller t × (is_under (spent_by a caller).tokens q t ≡ true))
      ⊎ RevokesAlone a caller q

-- The request was the last use of its client token, which q is under.
pub record EndsWithClient (a : Asking) (q : Text) : Type 0 where
  pub caller : Text
  pub client : IsClient a caller
  pub own : Token
  pub there : get (clocked a).tokens caller ≡ Some own
  pub uses : ℕ
  pub limited : own.uses_left ≡ Some uses
  pub last : uses ≤ 1
  pub under : is_under (spent_by a caller).tokens q caller ≡ true

-- The token q goes with the request: by its end, or that of a token that it is under; by a revocation; or with the last
-- use of a token that it is under, which it may be itself.
abbrev pub TokenGoes : Asking → Text → Type 0
TokenGoes a q = IsDue a q ⊎ (IsRevoked a q ⊎ EndsWithClient a q)

-- ---- what changes of one that stands

-- the command of the caller c renews the token q: it names it by its text, or is one to its own
abbrev pub RenewalOf : Text → Text → TokenCommand → Type 0
RenewalOf c q (TokenCommand.Renew asked) = asked.token ≡ q
RenewalOf c q (TokenCommand.RenewSelf increment) = c ≡ q
RenewalOf c q _ = ⊥

-- for how long the command asks, and 0 if it does not say
abbrev pub increment_of : TokenCommand → ℕ
increment_of (TokenCommand.Renew asked) = asked.increment
increment_of (TokenCommand.RenewSelf increment) = increment
increment_of _ = 0

-- the request was a 200 to a renewal of the token q
pub record RenewsToken (a : Asking) (q : Text) : Type 0 where
  pub caller : Text
  pub client : IsClient a caller
  pub command : TokenCommand
  pub means : command_of (clocked a).mounts a.ask ≡ Ok (on_token command)
  pub names : RenewalOf caller q command
  pub answered : a.outcome.response.status ≡ Status.Success

-- The end of the token x that is renewed now by an increment. It is as far ahead as the increment, or if that is 0, as
-- the time that the token was made for; that of a periodic token, as its period. But it is no later than its own
-- longest time after its issue, if it has one, nor than 32 days after it, if it is not periodic.
pub record IsNewEnd (now increment : ℕ) (x : Token) (end : ℕ) : Type 0 where
  pub ahead : ℕ
  pub asked : x.period ≡ 0 → increment ≢ 0 → ahead ≡ increment
  pub not_asked : x.period ≡ 0 → increment ≡ 0 → ahead ≡ x.ttl
  pub periodic : x.period ≢ 0 → ahead ≡ x.period
  pub own : x.period ≡ 0 → x.explicit_max_ttl ≢ 0
      → end ≡ min (now + ahead) (x.issued + min 2764800 x.explicit_max_ttl)
  pub longest : x.period ≡ 0 → x.explicit_max_ttl ≡ 0 → end ≡ min (now + ahead) (x.issued + 2764800)
  pub own_periodic : x.period ≢ 0 → x.explicit_max_ttl ≢ 0
      → end ≡ min (now + ahead) (x.issued + x.explicit_max_ttl)
  pub unbounded : x.period ≢ 0 → x.explicit_max_ttl ≡ 0 → end ≡ now + ahead

-- The request renewed the token q, which was x at its clock, and had an end; this is the new one.
pub record IsRenewedTo (a : Asking) (q : Text) (x : Token) (ends : Option ℕ) : Type 0 where
  pub renews : RenewsToken a q
  pub had : x.ends ≢ None
  pub end : ℕ
  pub is : ends ≡ Some end
  pub in_time : IsNewEnd (clocked a).clock (increment_of renews.command) x end

-- a write leaves the object of its body, and a deletion none
abbrev pub Edits : Option Text → CubbyholeCommand → Type 0
Edits new (CubbyholeCommand.Write full) = new ≡ full
Edits new CubbyholeCommand.Delete = new ≡ None
Edits new _ = ⊥

-- the same, of the commands that leave something
abbrev pub LeavesAt : Option Text → CubbyholeCommand → Type 0
LeavesAt new (CubbyholeCommand.Write full) = new ≡ full
LeavesAt new CubbyholeCommand.Delete = new ≡ None
LeavesAt new _ = ⊤

-- The request, whose client token is q, was a 204 to a write or a deletion at this path of its cubbyhole, which has
-- what that leaves.
pub record EditsCubbyhole (a : Asking) (q path : Text) (new : Option Text) : Type 0 where
  pub client : IsClient a q
  pub command : CubbyholeCommand
  pub means : command_of (clocked a).mounts a.ask ≡ Ok (on_cubbyhole path command)
  pub edits : Edits new command
  pub answered : a.outcome.response.status ≡ Status.NoContent

-- the request, of any caller, was a 200 to a renewal of the lease of this id
pub record RenewsLease (a : Asking) (lease_id : Text) : Type 0 where
  pub prefix : Text
  pub asked : LeaseRenewal
  pub means : command_of (clocked a).mounts a.ask ≡ Ok (on_lease prefix (LeaseCommand.Renew asked))
  pub names : asked.lease_id ≡ lease_id
  pub answered : a.outcome.response.status ≡ Status.Success

-- The lease was renewed now: only its end, and when it was renewed last, are others. The end is as far ahead as was
-- asked for, or if 0 was, as the time that it was made for, but no later than its longest time after its issue.
pub record IsRenewedLease (a : Asking) (lease_id : Text) (old new : Option Lease) : Type 0 where
  pub renews : RenewsLease a lease_id
  pub earlier : Lease
  pub there : old ≡ Some earlier
  pub later : Lease
  pub is : new ≡ Some later
  pub rest : later ≡ record earlier { ends = later.ends; renewed = later.renewed }
  pub renewed : later.renewed ≡ Some (clocked a).clock
  pub asked : renews.asked.increment ≢ 0
      → later.ends ≡ min ((clocked a).clock + renews.asked.increment) (earlier.issued + earlier.max_ttl)
  pub not_asked : renews.asked.increment ≡ 0
      → later.ends ≡ min ((clocked a).clock + earlier.ttl) (earlier.issued + earlier.max_ttl)

-- What the token q has under the id of a lease: what it had there, or that renewed, or one that was issued to it, or
-- none after a revocation.
abbrev pub LeaseBecomes : Asking → Text → Text → Option Lease → Option Lease → Type 0
LeaseBecomes a q lease_id old new =
    (new ≡ old)
    ⊎ (IsRenewedLease a lease_id old new
    ⊎ (((l : Lease) × (new ≡ Some l) × IsIssuedTo a q lease_id l) ⊎ ((new ≡ None) × RevokesLease a lease_id)))

-- the token x, with the parent, end, uses, cubbyhole and leases of y
abbrev pub with_changed : Token → Token → Token
with_changed y x =
    record x { parent = y.parent; ends = y.ends; uses_left = y.uses_left; cubbyhole = y.cubbyhole; leases = y.leases }

-- The token q was there at the request's clock, and y is what it became.
pub record TokenStands (a : Asking) (q : Text) (y : Token) : Type 0 where
  -- its parent and its uses change as in the law of revocation: by `revoke-orphan` of its parent, by its own requests
  pub was : WasToken a q y
  -- its end changes by a renewal of it
  pub ends : (y.ends ≡ was.earlier.ends) ⊎ IsRenewedTo a q was.earlier y.ends
  -- its cubbyhole by its own write or deletion, and there alone
  pub cubbyhole : (path : Text)
      → (get y.cubbyhole path ≡ get was.earlier.cubbyhole path) ⊎ EditsCubbyhole a q path (get y.cubbyhole path)
  -- its leases one by one
  pub leases : (lease_id : Text)
      → LeaseBecomes a q lease_id (get was.earlier.leases lease_id) (get y.leases lease_id)
  -- and all else never
  pub rest : y ≡ with_changed y was.earlier

-- The request made the token y, without anything in its cubbyhole, and without leases.
pub record Begins (a : Asking) (q : Text) (y : Token) : Type 0 where
  pub made : IsMade a q y
  pub no_cubbyhole : (path : Text) → get y.cubbyhole path ≡ None
  pub no_lease : (lease_id : Text) → get y.leases lease_id ≡ None

-- ---- who reads a cubbyhole

-- The answer is a 200 that shows what the cubbyhole of the client token has: the answer of the request, if it has no
-- wrap TTL, and else the one that is wrapped.
pub record AnswersOwn (a : Asking) (IsOf : Map Text → Text → Type 0) : Type 0 where
  pub caller : Text
  pub client : IsClient a caller
  pub own : Token
  pub there : get (clocked a).tokens caller ≡ Some own
  pub shown : Text
  pub of_own : IsOf own.cubbyhole shown
  pub unwrapped : unwrapped_answer a ≡ ok (reply_text (plain_reply (names_of a.words).request shown))
  pub plain : a.ask.wrap_ttl ≡ 0
      → a.outcome.response ≡ ok (reply_text (plain_reply (names_of a.words).request shown))

-- the text is the object at the path
abbrev pub IsObjectAt : Text → Map Text → Text → Type 0
IsObjectAt path cubbyhole text = get cubbyhole path ≡ Some text

-- the text is the list of what is in the folder
abbrev pub IsListAt : Text → Map Text → Text → Type 0
IsListAt path cubbyhole text = text ≡ keys_object (children (folder path) (keys cubbyhole))

-- ---- the law

pub record OwnStays (history : History) : Type 0 where
  -- a token that was there before an event, and does not go with it, is there after it
  pub goes : (i : ℕ) (a : Asking) (q : Text) → AskedAt history i a → get a.broker.tokens q ≢ None → (TokenGoes a q → ⊥)
      → get a.outcome.next.tokens q ≢ None
  -- each token after an event stood at its clock, or was made by it
  pub stands : (i : ℕ) (a : Asking) (q : Text) (y : Token) → AskedAt history i a
      → get a.outcome.next.tokens q ≡ Some y → TokenStands a q y ⊎ Begins a q y
  -- after a 200 to a renewal of a token it has its new end, if it is still there
  pub renewed : (i : ℕ) (a : Asking) (q : Text) (y : Token) → AskedAt history i a → RenewsToken a q
      → get a.outcome.next.tokens q ≡ Some y
      → (x : Token) × (get (clocked a).tokens q ≡ Some x) × IsRenewedTo a q x y.ends
  -- and after one to a renewal of a lease, which some token had, that has its new end, if its token is still there
  pub renewed_lease : (i : ℕ) (a : Asking) (lease_id : Text) → AskedAt history i a → RenewsLease a lease_id
      → (q : Text) × (lease_of (clocked a) q lease_id ≢ None)
  pub lease_ends : (i : ℕ) (a : Asking) (q lease_id : Text) (l : Lease) → AskedAt history i a
      → RenewsLease a lease_id → lease_of (clocked a) q lease_id ≡ Some l → get a.outcome.next.tokens q ≢ None
      → IsRenewedLease a lease_id (Some l) (lease_of a.outcome.next q lease_id)
  -- after a 204 to a write or a deletion the client token's cubbyhole has there what that leaves
  pub edited : (i : ℕ) (a : Asking) (q path : Text) (command : CubbyholeCommand) (y : Token) → AskedAt history i a
      → IsClient a q → command_of (clocked a).mounts a.ask ≡ Ok (on_cubbyhole path command)
      → a.outcome.response.status ≡ Status.NoContent → get a.outcome.next.tokens q ≡ Some y
      → LeavesAt (get y.cubbyhole path) command
  -- a 200 to a read of a cubbyhole has the object of the client token's own
  pub reads : (i : ℕ) (a : Asking) (path : Text) → AskedAt history i a
      → command_of (clocked a).mounts a.ask ≡ Ok (on_cubbyhole path CubbyholeCommand.Read)
      → a.outcome.response.status ≡ Status.Success → AnswersOwn a (IsObjectAt path)
  -- and one to a list has what is in that
  pub lists : (i : ℕ) (a : Asking) (path : Text) → AskedAt history i a
      → command_of (clocked a).mounts a.ask ≡ Ok (on_cubbyhole path CubbyholeCommand.List)
      → a.outcome.response.status ≡ Status.Success → AnswersOwn a (IsListAt path)
