-- The laws of refused requests, and of what policies decide, as statements (Vault's documentation, "Policies";
-- "Tokens", use limits; "Response wrapping").
use Rattle.std.specs.Prelude.{◌≡◌, ◌≢◌, ◌≤◌, ◌⊎◌, ◌&&◌, ◌||◌}
use Rattle.broker_model.specs.Words.{end_spent, drop_waiting, finish, operated}
use Rattle.histories.specs.Common.{ℕ, Bool, true, false, not, Some, None, Ok, Text, get, without, IsRefused, Response}
use Rattle.histories.specs.Common.{refused, Broker, at_moment, names_of, ◌>>=◌, spend, status_code, Token, Ask, Words}
use Rattle.histories.specs.Common.{asks_sudo, grants, Sudo, asked, on_wrapping, command_of, Outcome, permission_denied}
use Rattle.histories.specs.Common.{is_open, step, Refusal, Status, WrappingCommand, Denial}

-- ---- what a refused request leaves

-- the client token of the ask, which is not open, was a wrapping token, and its response waits no more
pub record SpentResponse (now next : Broker) (a : Ask) : Type 0 where
  pub token : Text
  pub client : a.token ≡ Some token
  pub closed : is_open a ≡ false
  pub waited : get now.waiting token ≢ None
  pub left : next ≡ drop_waiting now token

-- the client token of the ask, which is not open, spent a use, and ended if that was the last
pub record SpentUse (now next : Broker) (a : Ask) : Type 0 where
  pub token : Text
  pub client : a.token ≡ Some token
  pub closed : is_open a ≡ false
  pub left : next ≡ end_spent (spend now token) (Some token)

-- nothing changed, or only one of these
abbrev pub ChangesNothingElse : Broker → Broker → Ask → Type 0
ChangesNothingElse now next a = (next ≡ now) ⊎ (SpentResponse now next a ⊎ SpentUse now next a)

-- An ask that is answered with neither 200 nor 204 changes nothing, beside what comes to its end at that moment, but
-- that.
abbrev pub RefusedChangeNothing : Type 0
RefusedChangeNothing =
    (b : Broker) (moment : ℕ) (words : Words) (a : Ask) → 400 ≤ status_code (step b moment words a).response.status
    → ChangesNothingElse (at_moment b moment) (step b moment words a).next a

-- An ask to wrap an object is refused if it has no wrap TTL.
abbrev pub WrapNeedsTtl : Type 0
WrapNeedsTtl =
    (b : Broker) (moment : ℕ) (words : Words) (a : Ask) (text : Text)
    → command_of (at_moment b moment).mounts a ≡ Ok (on_wrapping (WrappingCommand.Wrap text)) → a.wrap_ttl ≡ 0
    → IsRefused (step b moment words a).response

-- ---- what policies decide

-- whether the policies of the token x of the caller c grant what the ask asks for, and `sudo` too if its path needs it
abbrev pub is_granted : Broker → Text → Token → Ask → Bool
is_granted b c x a =
    grants b.policies x.policies a.verb a.path (asked b c a.verb a.path)
    && (not (asks_sudo a.path) || grants b.policies x.policies a.verb a.path Sudo)

-- the ask is not open, and its client token is x, once it has spent the use
pub record Calls (now : Broker) (a : Ask) (c : Text) (x : Token) : Type 0 where
  pub client : a.token ≡ Some c
  pub closed : is_open a ≡ false
  pub no_response : get now.waiting c ≡ None
  pub there : get (spend now c).tokens c ≡ Some x

-- the ask is not open, and it has no client token, or one that is neither a token nor a wrapping token
pub record HasNoCaller (now : Broker) (a : Ask) : Type 0 where
  pub closed : is_open a ≡ false
  pub no_token : (t : Text) → a.token ≡ Some t → get now.tokens t ≡ None
  pub no_response : (t : Text) → a.token ≡ Some t → get now.waiting t ≡ None

-- the ask is not open, and its client token is a wrapping token
pub record HasResponse (now : Broker) (a : Ask) (t : Text) : Type 0 where
  pub closed : is_open a ≡ false
  pub client : a.token ≡ Some t
  pub waits : get now.waiting t ≢ None

-- 403 `permission denied`
pub record IsDenied (r : Response) : Type 0 where
  pub forbidden : r.status ≡ Status.Forbidden
  pub is : r ≡ refused (Refusal.Forbidden Denial.PermissionDenied)

-- the outcome is a denial, and leaves this broker
pub record IsDenial (left : Broker) (o : Outcome) : Type 0 where
  pub denied : IsDenied o.response
  pub next : o.next ≡ left

-- An ask that needs a caller is denied where the policies of its client token do not grant it. Where they do, it is
-- what its command leads to, and nothing else is asked of policies. Without a client token that is known it is denied,
-- and nothing is done; so it is with a wrapping token, which is taken out.
pub record PoliciesDecide : Type 0 where
  pub nobody : (b : Broker) (moment : ℕ) (words : Words) (a : Ask) → HasNoCaller (at_moment b moment) a
      → IsDenial (at_moment b moment) (step b moment words a)
  pub response : (b : Broker) (moment : ℕ) (words : Words) (a : Ask) (t : Text) → HasResponse (at_moment b moment) a t
      → IsDenial (record (at_moment b moment) { waiting = without (at_moment b moment).waiting t })
      (step b moment words a)
  pub denied : (b : Broker) (moment : ℕ) (words : Words) (a : Ask) (c : Text) (x : Token)
      → Calls (at_moment b moment) a c x → is_granted (spend (at_moment b moment) c) c x a ≡ false
      → (step b moment words a).response ≡ refused permission_denied
  pub granted : (b : Broker) (moment : ℕ) (words : Words) (a : Ask) (c : Text) (x : Token)
      → Calls (at_moment b moment) a c x → is_granted (spend (at_moment b moment) c) c x a ≡ true
      → step b moment words a
      ≡ finish (spend (at_moment b moment) c) (Some c)
      (command_of (at_moment b moment).mounts a
      >>= operated (spend (at_moment b moment) c) (Some c) (names_of words) a)
