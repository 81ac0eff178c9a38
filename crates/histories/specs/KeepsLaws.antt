-- The laws over a history, together, as a statement (this project's).
use Rattle.std.specs.Prelude.{◌≡◌}
use Rattle.histories.specs.Common.{Broker}
use Rattle.histories.specs.Allowed.{DoesAllowed}
use Rattle.histories.specs.Callers.{ServesAllowed}
use Rattle.histories.specs.Creations.{MadeAsAllowed}
use Rattle.histories.specs.Disabled.{DisabledMountsGo}
use Rattle.histories.specs.History.{AreAsked, Beginning, History, begun}
use Rattle.histories.specs.Identifiers.{GivesOutNew, NoIdentifierTwice}
use Rattle.histories.specs.KeptResponses.{HandedOutOnce, HandsOutKept, SameReply}
use Rattle.histories.specs.KeptStay.{KeptResponsesStay}
use Rattle.histories.specs.LeaseEnds.{LeasesStayRevoked}
use Rattle.histories.specs.LeaseOwners.{LeasesAreOfCallers}
use Rattle.histories.specs.Lifetimes.{AllEndInTime, TokensEndInTime}
use Rattle.histories.specs.Own.{OwnStays}
use Rattle.histories.specs.Revocation.{Revocation}
use Rattle.histories.specs.Settings.{SettingsFollow}
use Rattle.histories.specs.Shown.{AnswersShow}
use Rattle.histories.specs.Statuses.{StatusesFollow}
use Rattle.histories.specs.Versions.{VersionsFollow}
use Rattle.histories.specs.WhyRefused.{TellsWhy}

-- What the history asks, from the broker b on, keeps the laws.
pub record KeepsLaws (b : Broker) (history : History) : Type 0 where
  -- What is given out is new: whatever b is, and from a start on no identifier is given out twice.
  pub gives_out_new : GivesOutNew b history
  pub no_identifier_twice : (s : Beginning) → b ≡ begun s → NoIdentifierTwice s history
  -- Each response is handed out once, in time, and through no wrapping token that was taken out.
  pub handed_out_once : HandedOutOnce history
  -- What is handed out is what was kept since then, or waited before; from a start on it is the reply to the request
  -- that made its origin.
  pub hands_out_kept : HandsOutKept b history
  pub same_reply : (s : Beginning) → b ≡ begun s → SameReply history
  -- A response that waits stays, but for its end and what takes it out.
  pub responses_stay : KeptResponsesStay history
  -- What was revoked, or ended in another way, does not come back; nor does a lease.
  pub revocation : Revocation history
  pub leases_revoked : LeasesStayRevoked history
  -- Tokens are made by those that might, and end in time.
  pub tokens_made : MadeAsAllowed history
  pub lifetimes : AllEndInTime b → TokensEndInTime history
  pub lifetimes_since_start : (s : Beginning) → b ≡ begun s → TokensEndInTime history
  -- Each lease is of the token that asked for it, and what is another's stays.
  pub leases_asked : LeasesAreOfCallers history
  pub own : OwnStays history
  -- Versions follow what was asked, and of a mount that is disabled nothing is left.
  pub versions : VersionsFollow b history
  pub disabled : DisabledMountsGo history
  -- Roles, policies and mounts change by requests for them alone, to what these ask for.
  pub settings : SettingsFollow history
  -- Only what is allowed is served, and what is carried out is answered as it should be.
  pub callers : ServesAllowed history
  pub statuses : StatusesFollow history
  -- And some of what is allowed is always done.
  pub allowed : DoesAllowed history
  -- What is refused though policies grant it, is told why.
  pub refusals : TellsWhy history
  -- A look-up shows what there is.
  pub shown : AnswersShow history

-- whatever is asked, one request after another
abbrev pub AllKeepLaws : Type 0
AllKeepLaws = (b : Broker) (history : History) → AreAsked b history → KeepsLaws b history
