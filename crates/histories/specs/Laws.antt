-- The laws over all histories, as statements (this project's).
use Rattle.std.specs.Prelude.{◌<◌}
use Rattle.histories.specs.Common.{ℕ, Broker, Evolves}
use Rattle.histories.specs.Creations.{MadeAsAllowed}
use Rattle.histories.specs.History.{AreAsked, AreSteps, Asking, AskedAt, Beginning, History, begun}
use Rattle.histories.specs.Identifiers.{AreUsed, GivesOutNew, NoIdentifierTwice}
use Rattle.histories.specs.KeptResponses.{HandedOutOnce, HandsOutKept, SameReply}
use Rattle.histories.specs.LeaseOwners.{LeasesAreOfCallers}
use Rattle.histories.specs.Lifetimes.{AllEndInTime, TokensEndInTime}
use Rattle.histories.specs.Own.{OwnStays}
use Rattle.histories.specs.Revocation.{Revocation}

-- each request lets the broker evolve
abbrev pub EachEvolves : Type 0
EachEvolves =
    (b : Broker) (history : History) (i : ℕ) (a : Asking) → AreAsked b history → AskedAt history i a
    → Evolves a.broker a.outcome.next

-- and a later one is asked of a broker that evolved from what the earlier one left
abbrev pub LaterOnesEvolved : Type 0
LaterOnesEvolved =
    (b : Broker) (history : History) (i j : ℕ) (a x : Asking) → AreAsked b history → AskedAt history i a
    → AskedAt history j x → i < j → Evolves a.outcome.next x.broker

-- what is given out is new, whatever the first broker is
abbrev pub AllGiveOutNew : Type 0
AllGiveOutNew = (b : Broker) (history : History) → AreAsked b history → GivesOutNew b history

-- from a start on, no identifier is given out twice
abbrev pub NoneIsGivenTwice : Type 0
NoneIsGivenTwice = (s : Beginning) (history : History) → AreAsked (begun s) history → NoIdentifierTwice s history

-- The same of brokers that need not be sound, as long as each identifier in a place of the first was given out before
-- it: so what a definition gives out and does not mark is refused here.
abbrev pub AnyGiveOutNew : Type 0
AnyGiveOutNew = (b : Broker) (history : History) → AreSteps b history → AreUsed b → GivesOutNew b history

-- and from a start on, without any premise on the brokers
abbrev pub NoneIsGivenTwiceByAny : Type 0
NoneIsGivenTwiceByAny = (s : Beginning) (history : History) → AreSteps (begun s) history → NoIdentifierTwice s history

-- each identifier in a place of a later broker, and each origin of a response that waits there, was given out
abbrev pub AllStayUsed : Type 0
AllStayUsed =
    (b : Broker) (history : History) (j : ℕ) (x : Asking) → AreSteps b history → AreUsed b → AskedAt history j x
    → AreUsed x.broker × AreUsed x.outcome.next

-- a response is handed out once, whatever the first broker is
abbrev pub AllAreHandedOutOnce : Type 0
AllAreHandedOutOnce = (b : Broker) (history : History) → AreAsked b history → HandedOutOnce history

-- what is revoked, and whatever else ended, does not come back, whatever the first broker is
abbrev pub RevocationLasts : Type 0
RevocationLasts = (b : Broker) (history : History) → AreAsked b history → Revocation history

-- what is handed out is what was kept, whatever the first broker is
abbrev pub AllHandOutKept : Type 0
AllHandOutKept = (b : Broker) (history : History) → AreAsked b history → HandsOutKept b history

-- from a start on, it is the reply to the request that made its origin
abbrev pub AllAreTheReplies : Type 0
AllAreTheReplies = (s : Beginning) (history : History) → AreAsked (begun s) history → SameReply history

-- tokens are made by those that might, whatever the first broker is
abbrev pub AllMadeAsAllowed : Type 0
AllMadeAsAllowed = (b : Broker) (history : History) → AreAsked b history → MadeAsAllowed history

-- leases are of their callers, whatever the first broker is
abbrev pub AllLeasesAreOfCallers : Type 0
AllLeasesAreOfCallers = (b : Broker) (history : History) → AreAsked b history → LeasesAreOfCallers history

-- tokens end in time, from a broker on whose tokens do
abbrev pub AllTokensEndInTime : Type 0
AllTokensEndInTime =
    (b : Broker) (history : History) → AreAsked b history → AllEndInTime b → TokensEndInTime history

-- so from a start on
abbrev pub TokensEndInTimeSinceStart : Type 0
TokensEndInTimeSinceStart = (s : Beginning) (history : History) → AreAsked (begun s) history → TokensEndInTime history

-- what is another's stays, whatever the first broker is
abbrev pub AllOwnStays : Type 0
AllOwnStays = (b : Broker) (history : History) → AreAsked b history → OwnStays history
