-- The law of revocation, as a statement (Vault's documentation, "Tokens", token hierarchies and orphan tokens, use
-- limits; "Lease, renew, and revoke").
use Rattle.std.proofs.Common.{nat_lt, option_map, ◌≡◌, ◌≢◌, ◌<◌, ◌≤◌, ◌⊎◌, ◌&&◌, ◌||◌, ◌-◌, if◌then◌else◌, ℕ, max, Bool}
use Rattle.std.proofs.Common.{true, Some, false, Option, None, Ok}
use Rattle.broker_model.specs.Words.{keep, Tokens, lease_identifier, is_spent, are_new, wrapping_names, option_map_or}
use Rattle.broker_model.specs.Words.{Text, same, get, Token, Lease, is_under, Broker, names_of, lease_of, token_text}
use Rattle.broker_model.specs.Words.{IsRefused, refused, object_at, TokenCreation, Command, on_token, on_wrapping}
use Rattle.broker_model.specs.Words.{command_of, permission_denied, no_content, is_open, Refusal, Reason, Status}
use Rattle.token_tree.specs.Tokens as tree
use Rattle.wrapping.specs.Wrapping as wrapping
use Rattle.histories.specs.Common.{OfCaller, WithoutParent, TokenCommand, WrappingCommand, Making}
use Rattle.histories.specs.History.{Asking, AskedAt, History, clocked, spent_by}

-- ---- which commands revoke

-- what an accessor names: a token, else a wrapping token
abbrev pub named_by : Broker → Text → Option Text
named_by b accessor = option_map_or Some (tree.find_accessor b accessor) (wrapping.find_accessor b accessor)

-- the text that a command of the caller c revokes, with all under it
abbrev pub revoked_of : Broker → Text → TokenCommand → Option Text
revoked_of b c (TokenCommand.Revoke t) = Some t
revoked_of b c (TokenCommand.RevokeAccessor accessor) = named_by b accessor
revoked_of b c TokenCommand.RevokeSelf = Some c
revoked_of b c _ = None

-- the same of a command of any part
abbrev pub revoked_by : Broker → Text → Command → Option Text
revoked_by b c (on_token command) = revoked_of b c command
revoked_by b c _ = None

-- the text that a command revokes alone
abbrev pub orphaning_of : TokenCommand → Option Text
orphaning_of (TokenCommand.RevokeOrphan t) = Some t
orphaning_of _ = None

-- the same of a command of any part
abbrev pub orphaning_by : Command → Option Text
orphaning_by (on_token command) = orphaning_of command
orphaning_by _ = None

-- whether a command revokes a text with all under it
abbrev pub is_revocation : TokenCommand → Bool
is_revocation (TokenCommand.Revoke t) = true
is_revocation (TokenCommand.RevokeAccessor accessor) = true
is_revocation TokenCommand.RevokeSelf = true
is_revocation _ = false

-- whether it revokes a text alone
abbrev pub is_orphaning : TokenCommand → Bool
is_orphaning (TokenCommand.RevokeOrphan t) = true
is_orphaning _ = false

-- ---- what was asked, and answered

-- the caller c asked for the command, and was answered 204
pub record IsGranted (a : Asking) (c : Text) (command : Command) : Type 0 where
  pub caller : a.ask.token ≡ Some c
  pub closed : is_open a.ask ≡ false
  pub means : command_of (clocked a).mounts a.ask ≡ Ok command
  pub response : a.outcome.response ≡ no_content

-- the request, by the caller c, was a 204 that revoked t with all under it
pub record Revokes (a : Asking) (c t : Text) : Type 0 where
  pub command : Command
  pub granted : IsGranted a c command
  pub text : revoked_by (spent_by a c) c command ≡ Some t

-- the request, by the caller c, was a 204 that revoked t alone
pub record RevokesAlone (a : Asking) (c t : Text) : Type 0 where
  pub command : Command
  pub granted : IsGranted a c command
  pub text : orphaning_by command ≡ Some t

-- ---- what ended

-- The token q ended with the request, in whichever way: it was one before it, and it is none at its clock or after it.
pub record EndsToken (a : Asking) (q : Text) : Type 0 where
  pub was : get a.broker.tokens q ≢ None
  pub gone : (get (clocked a).tokens q ≡ None) ⊎ (get a.outcome.next.tokens q ≡ None)

-- The token q comes to its end with the request: its end, or that of a token that it is under, is at or before the
-- later of the request's moment and the clock before it (Vault's documentation, "Lease, renew, and revoke").
pub record IsDue (a : Asking) (q : Text) : Type 0 where
  pub above : Text
  pub under : is_under a.broker.tokens q above ≡ true
  pub above_token : Token
  pub there : get a.broker.tokens above ≡ Some above_token
  pub end : ℕ
  pub has_end : above_token.ends ≡ Some end
  pub reached : end ≤ max a.broker.clock a.moment

-- No lease of the broker b has the identifier or the credential of the lease l.
abbrev pub LacksLease : Broker → Text → Lease → Type 0
LacksLease b lease_id l =
    (t other_id : Text) (k : Lease) → lease_of b t other_id ≡ Some k
    → (lease_identifier other_id ≢ lease_identifier lease_id) × (k.credential ≢ l.credential)

-- The lease l of the token q comes to its end with the request, in the same way.
pub record IsLeaseDue (a : Asking) (q lease_id : Text) (l : Lease) : Type 0 where
  pub was : lease_of a.broker q lease_id ≡ Some l
  pub reached : l.ends ≤ max a.broker.clock a.moment

-- What is left in the broker b of the token q that ended with the request: no token, no cubbyhole, and no lease with
-- the identifier or the credential of one of its leases.
pub record IsGone (a : Asking) (q : Text) (b : Broker) : Type 0 where
  pub no_token : get b.tokens q ≡ None
  pub no_cubbyhole : (path : Text) → object_at b q path ≡ None
  pub no_lease : (lease_id : Text) (l : Lease) → lease_of a.broker q lease_id ≡ Some l → LacksLease b lease_id l

-- whether the token c has spent its last use
abbrev pub has_no_use : Tokens → Text → Bool
has_no_use ts c = option_map_or is_spent (get ts c) false

-- the token at q, unless it ends with the caller c, which has spent its last use
abbrev pub left_by_caller : Tokens → Text → Text → Option Token
left_by_caller ts c q = if has_no_use ts c && is_under ts q c then None else get ts q

-- the token q ends with the caller c, which is under t, apart from it, and has spent its last use
pub record EndsWithCaller (ts : Tokens) (c t q : Text) : Type 0 where
  pub spent : has_no_use ts c ≡ true
  pub under_caller : is_under ts q c ≡ true
  pub caller_under : is_under ts c t ≡ true
  pub apart : c ≢ t

-- ---- what becomes of a token

-- the token, with one use less if its uses are limited
abbrev pub with_use_spent : Token → Token
with_use_spent x = record x { uses_left = option_map (λ n. n - 1) x.uses_left }

-- the token, with its leases that end later than now
abbrev pub with_later_leases : ℕ → Token → Token
with_later_leases now x =
    record x { leases = keep (λ id. option_map_or (λ (l : Lease). nat_lt now l.ends) (get x.leases id) false) x.leases }

-- the request was not open, and q was its client token
pub record IsClient (a : Asking) (q : Text) : Type 0 where
  pub closed : is_open a.ask ≡ false
  pub token : a.ask.token ≡ Some q

-- The request, by some caller, revoked the parent of the token x alone, and y has none.
pub record IsOrphaned (a : Asking) (x y : Token) : Type 0 where
  pub caller : Text
  pub above : Text
  pub alone : RevokesAlone a caller above
  pub parent : x.parent ≡ Some above
  pub none : y.parent ≡ None

-- The token q was there at the request's clock, and y is what it became: with the same parent, unless that was revoked
-- alone, the same accessor, policies and period. If it was the client token of a request that is not open, it has one
-- use less, and one left; else it has as many as before.
pub record WasToken (a : Asking) (q : Text) (y : Token) : Type 0 where
  pub earlier : Token
  pub there : get (clocked a).tokens q ≡ Some earlier
  pub parent : (y.parent ≡ earlier.parent) ⊎ IsOrphaned a earlier y
  pub accessor : y.accessor ≡ earlier.accessor
  pub policies : y.policies ≡ earlier.policies
  pub issued : y.issued ≡ earlier.issued
  pub period : y.period ≡ earlier.period
  pub other_uses : (IsClient a q → ⊥) → y.uses_left ≡ earlier.uses_left
  pub uses : IsClient a q → (y.uses_left ≡ option_map (λ n. n - 1) earlier.uses_left) × (y.uses_left ≢ Some 0)

-- whose child a token is that the caller c asks for
abbrev pub parent_asked : Text → Making → TokenCreation → Option Text
parent_asked c OfCaller asked = if asked.no_parent then None else Some c
parent_asked c WithoutParent asked = None

-- The request asked for a token, and y is it, of the request's words: the child of the caller, unless it asked for
-- none.
pub record IsMade (a : Asking) (q : Text) (y : Token) : Type 0 where
  pub caller : Text
  pub client : IsClient a caller
  pub making : Making
  pub asked : TokenCreation
  pub means : command_of (clocked a).mounts a.ask ≡ Ok (on_token (TokenCommand.Create making asked))
  pub text : q ≡ token_text (names_of a.words).token
  pub accessor : y.accessor ≡ (names_of a.words).accessor
  pub parent : y.parent ≡ parent_asked caller making asked

-- ---- what is answered later

-- the wrapping token that a command takes a text as
abbrev pub taken_as : WrappingCommand → Option Text
taken_as (WrappingCommand.Wrap text) = None
taken_as (WrappingCommand.LookUp meant) = meant
taken_as (WrappingCommand.Rewrap meant) = meant
taken_as (WrappingCommand.Unwrap meant) = meant

-- whether the identifiers that the command needs are new: a rewrap needs those of another wrapping token
abbrev pub has_new_names : Asking → WrappingCommand → Bool
has_new_names x (WrappingCommand.Wrap text) = true
has_new_names x (WrappingCommand.LookUp meant) = true
has_new_names x (WrappingCommand.Rewrap meant) = are_new (clocked x).used (wrapping_names (names_of x.words))
has_new_names x (WrappingCommand.Unwrap meant) = true

-- 400 `wrapping token is not valid or does not exist`; but 500 to a rewrap whose words are not new, and to no other
abbrev pub FindsNone : Asking → WrappingCommand → Type 0
FindsNone x command =
    x.outcome.response ≡ refused
    (if has_new_names x command then Refusal.BadRequest Reason.InvalidWrappingToken else Refusal.IdentifierUsed)

-- ---- the law

pub record Revocation (history : History) : Type 0 where
  -- Each token after an event was one at its clock, or was made by it, as the child of its caller. So the descendants
  -- of a token are those that it made, and that these made, but for tokens that were asked for without parent, and for
  -- what was orphaned since.
  pub descends : (i : ℕ) (a : Asking) (q : Text) (y : Token) → AskedAt history i a
      → get a.outcome.next.tokens q ≡ Some y → WasToken a q y ⊎ IsMade a q y
  -- A token that does not come to its end, nor is under one that does, is at the event's clock as it was before it, but
  -- for its leases that come to theirs.
  pub stays : (i : ℕ) (a : Asking) (q : Text) (x : Token) → AskedAt history i a → get a.broker.tokens q ≡ Some x
      → (IsDue a q → ⊥) → get (clocked a).tokens q ≡ Some (with_later_leases (max a.broker.clock a.moment) x)
  -- The clock is the later of that before the event and the event's moment.
  pub clock : (i : ℕ) (a : Asking) → AskedAt history i a → (clocked a).clock ≡ max a.broker.clock a.moment
  -- And so it is after the event: it is neither moved back nor on.
  pub clock_left : (i : ℕ) (a : Asking) → AskedAt history i a → a.outcome.next.clock ≡ max a.broker.clock a.moment
  -- A caller that spends a use has one less, if its uses are limited; nothing else of it changes, nor any other token.
  pub spends : (i : ℕ) (a : Asking) (c q : Text) → AskedAt history i a
      → get (spent_by a c).tokens q
      ≡ option_map (λ x. if same q c then with_use_spent x else x) (get (clocked a).tokens q)
  -- A command that revokes a text, with all under it or alone, is answered with 204, or refused.
  pub answered : (i : ℕ) (a : Asking) (command : TokenCommand) → AskedAt history i a
      → command_of (clocked a).mounts a.ask ≡ Ok (on_token command)
      → (is_revocation command || is_orphaning command) ≡ true
      → (a.outcome.response ≡ no_content) ⊎ IsRefused a.outcome.response
  -- Each 204 to a command that revokes is a revocation by a caller of what the command names.
  pub each : (i : ℕ) (a : Asking) (command : TokenCommand) → AskedAt history i a
      → command_of (clocked a).mounts a.ask ≡ Ok (on_token command) → is_revocation command ≡ true
      → a.outcome.response.status ≡ Status.NoContent → (c : Text) × (t : Text) × Revokes a c t
  -- So is each 204 to a command that revokes a text alone.
  pub each_alone : (i : ℕ) (a : Asking) (command : TokenCommand) → AskedAt history i a
      → command_of (clocked a).mounts a.ask ≡ Ok (on_token command) → is_orphaning command ≡ true
      → a.outcome.response.status ≡ Status.NoContent → (c : Text) × (t : Text) × RevokesAlone a c t
  -- A 204 that revoked t ended each token that was under it then.
  pub revoked : (i : ℕ) (a : Asking) (c t q : Text) → AskedAt history i a → Revokes a c t
      → is_under (spent_by a c).tokens q t ≡ true → EndsToken a q
  -- The tokens not under t are after that event just as they were at its clock, apart from the caller's spent use and,
  -- after its last one, its end with its descendants.
  pub others : (i : ℕ) (a : Asking) (c t q : Text) → AskedAt history i a → Revokes a c t
      → is_under (spent_by a c).tokens q t ≡ false
      → get a.outcome.next.tokens q ≡ left_by_caller (spent_by a c).tokens c q
  -- A 204 that revoked t alone ended t.
  pub alone : (i : ℕ) (a : Asking) (c t : Text) → AskedAt history i a → RevokesAlone a c t
      → get (spent_by a c).tokens t ≢ None → EndsToken a t
  -- Its children, but for a caller on its last use, stand without parent then.
  pub children : (i : ℕ) (a : Asking) (c t q : Text) (x : Token) → AskedAt history i a → RevokesAlone a c t
      → q ≢ t → get (spent_by a c).tokens q ≡ Some x → x.parent ≡ Some t
      → (q ≢ c) ⊎ (has_no_use (spent_by a c).tokens c ≡ false)
      → get a.outcome.next.tokens q ≡ Some (record x { parent = None })
  -- The tokens further below t are as they were, unless they end with a caller that is under t.
  pub below : (i : ℕ) (a : Asking) (c t q : Text) (x : Token) → AskedAt history i a → RevokesAlone a c t
      → q ≢ t → is_under (spent_by a c).tokens q t ≡ true → get (spent_by a c).tokens q ≡ Some x
      → x.parent ≢ Some t → (EndsWithCaller (spent_by a c).tokens c t q → ⊥) → get a.outcome.next.tokens q ≡ Some x
  -- And those end with it.
  pub ended_below : (i : ℕ) (a : Asking) (c t q : Text) → AskedAt history i a → RevokesAlone a c t
      → EndsWithCaller (spent_by a c).tokens c t q → EndsToken a q
  -- And the tokens not under t are as after the other revocation.
  pub others_alone : (i : ℕ) (a : Asking) (c t q : Text) → AskedAt history i a → RevokesAlone a c t
      → is_under (spent_by a c).tokens q t ≡ false
      → get a.outcome.next.tokens q ≡ left_by_caller (spent_by a c).tokens c q
  -- After both, each wrapping token but t waits as at the clock.
  pub responses : (i : ℕ) (a : Asking) (c t u : Text) → AskedAt history i a → Revokes a c t ⊎ RevokesAlone a c t
      → u ≢ t → get a.outcome.next.waiting u ≡ get (clocked a).waiting u
  -- A token that comes to its end, or that is under one that does, ended with that event.
  pub due : (i : ℕ) (a : Asking) (q : Text) → AskedAt history i a → IsDue a q → EndsToken a q
  -- And that event does nothing for it: if the token is the client token, the answer is 403, unless the ask is open.
  pub due_denied : (i : ℕ) (a : Asking) (q : Text) → AskedAt history i a → IsDue a q → a.ask.token ≡ Some q
      → is_open a.ask ≡ false → a.outcome.response ≡ refused permission_denied
  -- No token that ended, by revocation, by its end or by its last use, stands in any later state, nor does its
  -- cubbyhole, nor a lease with an id or a credential of its leases.
  pub lasts : (i j : ℕ) (a x : Asking) (q : Text) → AskedAt history i a → EndsToken a q → AskedAt history j x → i ≤ j
      → IsGone a q x.outcome.next
  -- Nor does a lease that comes to its end, whatever becomes of its token: no lease has its id or its credential.
  pub leases_due : (i j : ℕ) (a x : Asking) (q lease_id : Text) (l : Lease) → AskedAt history i a
      → IsLeaseDue a q lease_id l → AskedAt history j x → i ≤ j → LacksLease x.outcome.next lease_id l
  -- A later request whose client token is such a token is answered 403 `permission denied`, unless it is open.
  pub denied : (i j : ℕ) (a x : Asking) (q : Text) → AskedAt history i a → EndsToken a q → AskedAt history j x → i < j
      → x.ask.token ≡ Some q → is_open x.ask ≡ false → x.outcome.response ≡ refused permission_denied
  -- To an open one, where it is taken as wrapping token and the body can be read, the answer is 400; but it is 500 to a
  -- rewrap whose words are not new, and to no other.
  pub not_waiting : (i j : ℕ) (a x : Asking) (q : Text) (command : WrappingCommand) → AskedAt history i a
      → EndsToken a q → AskedAt history j x → i < j → is_open x.ask ≡ true
      → command_of (clocked x).mounts x.ask ≡ Ok (on_wrapping command) → taken_as command ≡ Some q
      → FindsNone x command
