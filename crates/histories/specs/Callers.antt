-- The law of who is served, as a statement (Vault's documentation, "Policies"; "Tokens"; "Response wrapping").
use Rattle.std.specs.Prelude.{◌≡◌, ◌⊎◌}
use Rattle.histories.specs.Common.{ℕ, true, false, Text, without, Broker, Token, is_open}
use Rattle.histories.specs.History.{AreAsked, Asking, AskedAt, History, clocked, spent_by}
use Rattle.histories.specs.Refused.{Calls, HasNoCaller, HasResponse, IsDenial, IsDenied, is_granted}

-- The client token of the request, which is not open, was a token, and its policies grant what was asked.
pub record IsAllowed (a : Asking) : Type 0 where
  pub caller : Text
  pub own : Token
  pub calls : Calls (clocked a) a.ask caller own
  pub granted : is_granted (spent_by a caller) caller own a.ask ≡ true

pub record ServesAllowed (history : History) : Type 0 where
  -- A request that is not open is denied, or it was allowed to its client token.
  pub allowed : (i : ℕ) (a : Asking) → AskedAt history i a → is_open a.ask ≡ false
      → IsDenied a.outcome.response ⊎ IsAllowed a
  -- Without a client token that is known, the state stays as it is at the clock.
  pub nobody : (i : ℕ) (a : Asking) → AskedAt history i a → HasNoCaller (clocked a) a.ask
      → IsDenial (clocked a) a.outcome
  -- With a wrapping token, its response is dropped, and nothing else.
  pub response : (i : ℕ) (a : Asking) (t : Text) → AskedAt history i a → HasResponse (clocked a) a.ask t
      → IsDenial (record (clocked a) { waiting = without (clocked a).waiting t }) a.outcome

-- whatever the first broker is
abbrev pub AllServeAllowed : Type 0
AllServeAllowed = (b : Broker) (history : History) → AreAsked b history → ServesAllowed history
