-- Laws of the tree of tokens, of the first broker and of how a broker evolves, as statements (this project's; the
-- files of laws beside this one prove them).
use Rattle.std.specs.Prelude.{◌≡◌, ◌≢◌, ◌<◌, ◌≤◌, ◌^◌, ◌∷◌, ℕ, [], true, false, Option, Some, None}
use Rattle.broker_types.specs.Words.{Text, get, greatest_moment, Token, Tokens, lineage, is_under, ParentsExist}
use Rattle.broker_types.specs.Words.{ChainsEnd, alive_at, with_live_leases, without_descendants, without_parent, Broker}
use Rattle.broker_types.specs.Words.{Waiting, Evolves, OriginIsGone, HasEnded, IsTakenOut, LeaseHasEnded, Forms}
use Rattle.broker_types.specs.Words.{SoundIdentifiers, SoundWaiting, Sound, spend, end_spent, drop_waiting}
use Rattle.broker_types.specs.Words.{default_policy, first_broker}
use Rattle.broker_types.specs.Broker as broker

-- ---- lineages

-- an unknown token has no lineage
abbrev pub UnknownHasNoLineage : Type 0
UnknownHasNoLineage = (ts : Tokens) (t : Text) → get ts t ≡ None → lineage ts t ≡ []

-- the lineage of a token without parent is the token
abbrev pub LineageOfOrphan : Type 0
LineageOfOrphan = (ts : Tokens) (t : Text) (x : Token) → get ts t ≡ Some x → x.parent ≡ None → lineage ts t ≡ t ∷ []

-- the lineage of another is the token and the lineage of its parent
abbrev pub LineageOfChild : Type 0
LineageOfChild =
    (ts : Tokens) (t p : Text) (x : Token) → ChainsEnd ts → get ts t ≡ Some x → x.parent ≡ Some p
    → lineage ts t ≡ t ∷ lineage ts p

-- a token is under itself
abbrev pub IsUnderItself : Type 0
IsUnderItself = (ts : Tokens) (t : Text) → get ts t ≢ None → is_under ts t t ≡ true

-- what is under a, which is under b, is under b
abbrev pub UnderIsTransitive : Type 0
UnderIsTransitive =
    (ts : Tokens) (t a b : Text) → ChainsEnd ts → is_under ts t a ≡ true → is_under ts a b ≡ true
    → is_under ts t b ≡ true

-- what is under another is a token, and so is the other
abbrev pub UnderOfTokens : Type 0
UnderOfTokens = (ts : Tokens) (t a : Text) → is_under ts t a ≡ true → (get ts t ≢ None) × (get ts a ≢ None)

-- ---- revocation

-- revoking an unknown token changes nothing
abbrev pub RevokedUnknown : Type 0
RevokedUnknown = (ts : Tokens) (t : Text) → get ts t ≡ None → without_descendants ts t ≡ ts

-- nothing under the revoked token is left
abbrev pub RevokedIsGone : Type 0
RevokedIsGone = (ts : Tokens) (t q : Text) → is_under ts q t ≡ true → get (without_descendants ts t) q ≡ None

-- a token that is not under it is as it was
abbrev pub OthersAreAsBefore : Type 0
OthersAreAsBefore = (ts : Tokens) (t q : Text) → is_under ts q t ≡ false → get (without_descendants ts t) q ≡ get ts q

-- ---- revocation of one token

-- nor does revoking it alone
abbrev pub OrphanedByUnknown : Type 0
OrphanedByUnknown = (ts : Tokens) (t : Text) → ParentsExist ts → get ts t ≡ None → without_parent ts t ≡ ts

-- a token that is revoked alone is gone
abbrev pub OrphanedIsGone : Type 0
OrphanedIsGone = (ts : Tokens) (t : Text) → get (without_parent ts t) t ≡ None

-- its children have no parent then
abbrev pub ChildrenAreOrphans : Type 0
ChildrenAreOrphans =
    (ts : Tokens) (t q : Text) (x : Token) → q ≢ t → get ts q ≡ Some x → x.parent ≡ Some t
    → get (without_parent ts t) q ≡ Some (record x { parent = None })

-- a token of another parent, or of none, is as it was
abbrev pub UnrelatedAreAsBefore : Type 0
UnrelatedAreAsBefore =
    (ts : Tokens) (t q : Text) (x : Token) → q ≢ t → get ts q ≡ Some x → x.parent ≢ Some t
    → get (without_parent ts t) q ≡ Some x

-- and no token is new
abbrev pub NoneIsNew : Type 0
NoneIsNew = (ts : Tokens) (t q : Text) → get ts q ≡ None → get (without_parent ts t) q ≡ None

-- ---- expiry

-- the token and all above it have no end, or one after now
abbrev pub OutlastsAbove : ℕ → Tokens → Text → Type 0
OutlastsAbove now ts t =
    (a : Text) (y : Token) (m : ℕ) → is_under ts t a ≡ true → get ts a ≡ Some y → y.ends ≡ Some m → now < m

-- what is left outlasts now, as does all above it
abbrev pub LeftOutlasts : Type 0
LeftOutlasts =
    (now : ℕ) (ts : Tokens) (t : Text) → get (alive_at now ts) t ≢ None → OutlastsAbove now ts t

-- a token that outlasts now, as does all above it, stays, with its leases that do
abbrev pub OutlastingIsLeft : Type 0
OutlastingIsLeft =
    (now : ℕ) (ts : Tokens) (t : Text) (x : Token) → get ts t ≡ Some x → OutlastsAbove now ts t
    → get (alive_at now ts) t ≡ Some (with_live_leases now x)

-- ---- trees stay trees

-- parents are tokens, and chains end
pub record IsTree (ts : Tokens) : Type 0 where
  pub parents_exist : ParentsExist ts
  pub chains_end : ChainsEnd ts

-- a tree without a token and all under it is a tree
abbrev pub RevokeKeepsTrees : Type 0
RevokeKeepsTrees = (ts : Tokens) (t : Text) → IsTree ts → IsTree (without_descendants ts t)

-- a tree without one token, whose children have no parent then, is a tree
abbrev pub RevokeOrphanKeepsTrees : Type 0
RevokeOrphanKeepsTrees = (ts : Tokens) (t : Text) → IsTree ts → IsTree (without_parent ts t)

-- what is left of a tree at a moment is a tree
abbrev pub ExpiryKeepsTrees : Type 0
ExpiryKeepsTrees = (now : ℕ) (ts : Tokens) → IsTree ts → IsTree (alive_at now ts)

-- ---- the first broker

-- the broker that a start makes of two different words is sound
abbrev pub FirstBrokerIsSound : Type 0
FirstBrokerIsSound =
    (forms : Forms) (moment v w : ℕ) → moment ≤ greatest_moment → v < 2 ^ 128 → w < 2 ^ 128 → v ≢ w
    → forms.is_policy default_policy ≡ true → Sound forms None (first_broker moment v w)

-- ---- soundness is kept, whoever may have spent its last use

-- revocation leaves a sound broker sound
abbrev pub RevokeKeepsSoundness : Type 0
RevokeKeepsSoundness =
    (forms : Forms) (who : Option Text) (b : Broker) (t : Text)
    → Sound forms who b → Sound forms who (broker.revoke b t)

-- and so does revocation of one token
abbrev pub RevokeOrphanKeepsSoundness : Type 0
RevokeOrphanKeepsSoundness =
    (forms : Forms) (who : Option Text) (b : Broker) (t : Text)
    → Sound forms who b → Sound forms who (broker.revoke_orphan b t)

-- and an accepted moment, at which tokens and waiting responses end
abbrev pub ExpiryKeepsSoundness : Type 0
ExpiryKeepsSoundness =
    (forms : Forms) (who : Option Text) (b : Broker) (moment : ℕ) → moment ≤ greatest_moment
    → Sound forms who b → Sound forms who (broker.at_moment b moment)

-- and a waiting response that is dropped
abbrev pub DropWaitingKeepsSoundness : Type 0
DropWaitingKeepsSoundness =
    (forms : Forms) (who : Option Text) (b : Broker) (t : Text)
    → Sound forms who b → Sound forms who (drop_waiting b t)

-- the caller of a request may have spent its last use then
abbrev pub SpendKeepsSoundness : Type 0
SpendKeepsSoundness = (forms : Forms) (b : Broker) (c : Text) → Sound forms None b → Sound forms (Some c) (spend b c)

-- once a caller that has spent its last use is ended, no token has
abbrev pub EndingTheSpentKeepsSoundness : Type 0
EndingTheSpentKeepsSoundness =
    (forms : Forms) (who : Option Text) (b : Broker) → Sound forms who b → Sound forms None (end_spent b who)

-- ---- runs

-- evolving is transitive
abbrev pub EvolvingIsTransitive : Type 0
EvolvingIsTransitive = (b c d : Broker) → Evolves b c → Evolves c d → Evolves b d

-- each broker evolves from itself
abbrev pub EvolvesFromItself : Type 0
EvolvesFromItself = (b : Broker) → Evolves b b

-- an origin that is gone stays so: no later response has it
abbrev pub GoneOriginStaysGone : Type 0
GoneOriginStaysGone = (b c : Broker) (origin : Text) → Evolves b c → OriginIsGone b origin → OriginIsGone c origin

-- a token that ended is never a token again
abbrev pub EndedStaysEnded : Type 0
EndedStaysEnded = (b c : Broker) (t : Text) → Evolves b c → HasEnded b t → HasEnded c t

-- nor is a lease that ended a lease again
abbrev pub EndedLeaseStaysEnded : Type 0
EndedLeaseStaysEnded =
    (b c : Broker) (lease_id credential : Text) → Evolves b c → LeaseHasEnded b lease_id credential
    → LeaseHasEnded c lease_id credential

-- a wrapping token that was taken out never waits again
abbrev pub TakenOutStaysOut : Type 0
TakenOutStaysOut = (b c : Broker) (t : Text) → Evolves b c → IsTakenOut b t → IsTakenOut c t

-- what goes lets a broker evolve

-- revocation lets a broker evolve
abbrev pub RevokeEvolves : Type 0
RevokeEvolves = (b : Broker) (t : Text) → Evolves b (broker.revoke b t)

-- and so does revocation of one token
abbrev pub RevokeOrphanEvolves : Type 0
RevokeOrphanEvolves = (b : Broker) (t : Text) → Evolves b (broker.revoke_orphan b t)

-- and a moment
abbrev pub ExpiryEvolves : Type 0
ExpiryEvolves = (b : Broker) (moment : ℕ) → Evolves b (broker.at_moment b moment)

-- and a use that is spent
abbrev pub SpendEvolves : Type 0
SpendEvolves = (b : Broker) (c : Text) → Evolves b (spend b c)

-- and the end of a spent caller
abbrev pub EndSpentEvolves : Type 0
EndSpentEvolves = (b : Broker) (who : Option Text) → Evolves b (end_spent b who)

-- and a waiting response that is dropped
abbrev pub DropWaitingEvolves : Type 0
DropWaitingEvolves = (b : Broker) (t : Text) → Evolves b (drop_waiting b t)

-- each token that is gone has ended
abbrev pub EndTokens : Broker → Broker → Type 0
EndTokens b c = (q : Text) → get b.tokens q ≢ None → get c.tokens q ≡ None → HasEnded c q

-- a token that is gone after revocation has ended
abbrev pub RevokeEnds : Type 0
RevokeEnds = (b : Broker) (t : Text) → SoundIdentifiers b → EndTokens b (broker.revoke b t)

-- and one that was revoked alone
abbrev pub RevokeOrphanEnds : Type 0
RevokeOrphanEnds = (b : Broker) (t : Text) → SoundIdentifiers b → EndTokens b (broker.revoke_orphan b t)

-- and one that is gone at a moment
abbrev pub ExpiryEnds : Type 0
ExpiryEnds = (b : Broker) (moment : ℕ) → SoundIdentifiers b → EndTokens b (broker.at_moment b moment)

-- and one that is gone after the end of a spent caller
abbrev pub EndSpentEnds : Type 0
EndSpentEnds = (b : Broker) (who : Option Text) → SoundIdentifiers b → EndTokens b (end_spent b who)

-- a wrapping token whose response is dropped is taken out
abbrev pub DroppedIsTakenOut : Type 0
DroppedIsTakenOut =
    (b : Broker) (t : Text) → SoundIdentifiers b → get b.waiting t ≢ None → IsTakenOut (drop_waiting b t) t

-- and the origin of its response is gone
abbrev pub DroppedOriginIsGone : Type 0
DroppedOriginIsGone =
    (b : Broker) (t : Text) → SoundIdentifiers b → SoundWaiting b.waiting
    → (w : Waiting) → get b.waiting t ≡ Some w → OriginIsGone (drop_waiting b t) w.origin
