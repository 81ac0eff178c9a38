-- Laws of responses that wait, as statements (this project's; Vault's documentation, "Response wrapping").
use Rattle.std.specs.Prelude.{◌≡◌, ◌≢◌, ◌⊎◌, ◌<◌, ℕ, Option, Some, None, max}
use Rattle.records.specs.Words.{Text, Map, get, Token, Tokens, alive_at, Broker, Waiting, waiting_ends, at_moment}
use Rattle.records.specs.Words.{Evolves, IsNew, IsTakenOut, WaitedBefore, OnePlaceEach, token_identifier, Forms, Sound}
use Rattle.records.specs.Words.{SoundIdentifiers, IsMoment, IsIdentifier, IsTokenText, drop_waiting, of_tokens}
use Rattle.records.specs.Words.{of_waiting, Tells, KeepsOthers, Table}
use Rattle.wrapping.specs.Wrapping.{AddsNone, find_accessor, with_waiting, stored, MayBeStored, moved, rewrap}
use Rattle.wrapping.specs.Wrapping.{drop_accessor, without_ended}

-- ---- a response moves whole

-- after it has moved, it waits under its new wrapping token, with its path, its length of time, its origin and its text
abbrev pub MovedWaits : Type 0
MovedWaits =
    (b : Broker) (t u accessor : Text) (now : ℕ) (w : Waiting) → get b.waiting t ≡ Some w
    → get (rewrap b t u accessor now).waiting u
    ≡ Some (record {
      accessor = accessor;
      created = now;
      ttl = w.ttl;
      path = w.path;
      origin = w.origin;
      reply = w.reply;
    })

-- and not under the old one
abbrev pub MovedIsGone : Type 0
MovedIsGone =
    (b : Broker) (t u accessor : Text) (now : ℕ) → u ≢ t → get b.waiting t ≢ None
    → get (rewrap b t u accessor now).waiting t ≡ None

-- the old wrapping token is taken out then
abbrev pub MovedIsTakenOut : Type 0
MovedIsTakenOut =
    (b : Broker) (t u accessor : Text) (now : ℕ) → SoundIdentifiers b → u ≢ t → get b.waiting t ≢ None
    → IsTakenOut (rewrap b t u accessor now) t

-- each other response waits as before
abbrev pub OthersWait : Type 0
OthersWait =
    (b : Broker) (t u accessor q : Text) (now : ℕ) → q ≢ t → q ≢ u
    → get (rewrap b t u accessor now).waiting q ≡ get b.waiting q

-- and no identifier is marked as given out
abbrev pub RewrapMarksNone : Type 0
RewrapMarksNone = (b : Broker) (t u accessor : Text) (now : ℕ) → (rewrap b t u accessor now).used ≡ b.used

-- ---- a response goes alone

-- when one is taken out or dropped, each other waits as before
abbrev pub OthersStay : Type 0
OthersStay = (b : Broker) (t q : Text) → q ≢ t → get (drop_waiting b t).waiting q ≡ get b.waiting q

-- if none waits under the text, nothing changes
abbrev pub UnknownChangesNothing : Type 0
UnknownChangesNothing = (b : Broker) (t : Text) → get b.waiting t ≡ None → drop_waiting b t ≡ b

-- to drop it by the accessor of its wrapping token is the same
abbrev pub AccessorDropsTheSame : Type 0
AccessorDropsTheSame =
    (b : Broker) (t : Text) (w : Waiting) → OnePlaceEach b → get b.waiting t ≡ Some w
    → drop_accessor b w.accessor ≡ drop_waiting b t

-- ---- no response is added but the one that is stored

-- a response that waits after one is stored waited before, or is that one
abbrev pub StoreAddsOne : Type 0
StoreAddsOne =
    (b : Broker) (t q : Text) (w v : Waiting) → get (with_waiting b t w).waiting q ≡ Some v
    → WaitedBefore b v ⊎ ((q ≡ t) × (v ≡ w))

-- a response that moves adds none
abbrev pub RewrapAddsNone : Type 0
RewrapAddsNone = (b : Broker) (t u accessor : Text) (now : ℕ) → AddsNone b (rewrap b t u accessor now)

-- nor does one that is taken out or dropped
abbrev pub DropAddsNone : Type 0
DropAddsNone = (b : Broker) (t : Text) → AddsNone b (drop_waiting b t)

-- also by its accessor
abbrev pub AccessorAddsNone : Type 0
AccessorAddsNone = (b : Broker) (accessor : Text) → AddsNone b (drop_accessor b accessor)

-- nor do those that have come to their end
abbrev pub EndsAddNone : Type 0
EndsAddNone = (b : Broker) (now : ℕ) → AddsNone b (without_ended b now)

-- ---- which end

-- what is left ends later than now, and waited before
abbrev pub LeftEndsLater : Type 0
LeftEndsLater =
    (b : Broker) (now : ℕ) (t : Text) (w : Waiting) → get (without_ended b now).waiting t ≡ Some w
    → (get b.waiting t ≡ Some w) × (now < waiting_ends w)

-- and what ends later than now is left
abbrev pub LaterIsLeft : Type 0
LaterIsLeft =
    (b : Broker) (now : ℕ) (t : Text) (w : Waiting) → get b.waiting t ≡ Some w → now < waiting_ends w
    → get (without_ended b now).waiting t ≡ Some w

-- ---- accessors

-- the accessor of a wrapping token names it
abbrev pub AccessorsNameTheirs : Type 0
AccessorsNameTheirs =
    (b : Broker) (t : Text) (w : Waiting) → OnePlaceEach b → get b.waiting t ≡ Some w
    → find_accessor b w.accessor ≡ Some t

-- and what an accessor names is a wrapping token that has it
abbrev pub NamedHaveTheirAccessors : Type 0
NamedHaveTheirAccessors =
    (b : Broker) (t accessor : Text) → find_accessor b accessor ≡ Some t
    → (w : Waiting) × (get b.waiting t ≡ Some w) × (w.accessor ≡ accessor)

-- the accessor of a token names no wrapping token
abbrev pub AccessorsOfTokensNameNone : Type 0
AccessorsOfTokensNameNone =
    (b : Broker) (t : Text) (x : Token) → OnePlaceEach b → get b.tokens t ≡ Some x → find_accessor b x.accessor ≡ None

-- ---- a sound broker stays sound, whoever may have spent its last use

-- if a response is stored under new identifiers
abbrev pub StoreKeepsSoundness : Type 0
StoreKeepsSoundness =
    (forms : Forms) (who : Option Text) (b : Broker) (t : Text) (w : Waiting) → Sound forms who b
    → MayBeStored b t w → Sound forms who (stored b t w)

-- if one moves to new identifiers
abbrev pub RewrapKeepsSoundness : Type 0
RewrapKeepsSoundness =
    (forms : Forms) (who : Option Text) (b : Broker) (t u accessor : Text) (now : ℕ) (w : Waiting) → Sound forms who b
    → get b.waiting t ≡ Some w → IsMoment now → IsTokenText u → IsIdentifier accessor
    → IsNew b (token_identifier u) → IsNew b accessor → token_identifier u ≢ accessor
    → Sound forms who (stored (drop_waiting b t) u (moved accessor now w))

-- if one is dropped by its accessor
abbrev pub DropKeepsSoundness : Type 0
DropKeepsSoundness =
    (forms : Forms) (who : Option Text) (b : Broker) (accessor : Text) → Sound forms who b
    → Sound forms who (drop_accessor b accessor)

-- if those go that have come to their end
abbrev pub EndsKeepSoundness : Type 0
EndsKeepSoundness =
    (forms : Forms) (who : Option Text) (b : Broker) (now : ℕ) → Sound forms who b
    → Sound forms who (without_ended b now)

-- ---- a broker evolves

-- by a response that is stored under a new identifier, which is its origin
abbrev pub StoreEvolves : Type 0
StoreEvolves =
    (b : Broker) (t : Text) (w : Waiting) → IsNew b (token_identifier t) → w.origin ≡ token_identifier t
    → Evolves b (with_waiting b t w)

-- by one that moves to a new identifier
abbrev pub RewrapEvolves : Type 0
RewrapEvolves =
    (b : Broker) (t u accessor : Text) (now : ℕ) → IsNew b (token_identifier u)
    → Evolves b (rewrap b t u accessor now)

-- by one that is dropped by its accessor
abbrev pub DropEvolves : Type 0
DropEvolves = (b : Broker) (accessor : Text) → Evolves b (drop_accessor b accessor)

-- and by those that have come to their end
abbrev pub EndsEvolve : Type 0
EndsEvolve = (b : Broker) (now : ℕ) → Evolves b (without_ended b now)

-- ---- accessors are in two parts of the rows

-- When tokens have changed, the rows of waiting responses are still those of the broker: their own have not changed,
-- and the rows of accessors are those of all tokens.
abbrev pub TokensLeaveWaiting : Type 0
TokensLeaveWaiting =
    (old new : Table) (b : Broker) (ts : Tokens) → Tells of_waiting old b
    → Tells of_tokens new (record b { tokens = ts })
    → KeepsOthers of_tokens old new → Tells of_waiting new (record b { tokens = ts })

-- and the other way round
abbrev pub WaitingLeavesTokens : Type 0
WaitingLeavesTokens =
    (old new : Table) (b : Broker) (ws : Map Waiting) → Tells of_tokens old b
    → Tells of_waiting new (record b { waiting = ws }) → KeepsOthers of_waiting old new
    → Tells of_tokens new (record b { waiting = ws })

-- what is there at a moment: first the tokens go that have come to their end, and then the responses
abbrev pub ExpiryIsBoth : Type 0
ExpiryIsBoth =
    (b : Broker) (moment : ℕ) → at_moment b moment ≡ without_ended (record b {
      clock = max b.clock moment;
      tokens = alive_at (max b.clock moment) b.tokens;
    }) (max b.clock moment)
