-- The law of how long a token lives, as a statement (Vault's documentation, "Tokens", token time-to-live, explicit max
-- TTLs, periodic tokens, root tokens; the 32 days are Vault's default for the longest).
use Rattle.std.specs.Prelude.{◌≡◌, ◌≢◌, ◌≤◌, ◌+◌}
use Rattle.histories.specs.Common.{ℕ, Some, None, Text, get, Token, Broker}
use Rattle.histories.specs.Creations.{HasRoot}
use Rattle.histories.specs.History.{Asking, AskedAt, History, clocked}

-- only a token of `root`, without a longest time of its own and without a period, has no end
pub record MayBeEndless (x : Token) : Type 0 where
  pub root : HasRoot x
  pub no_longest : x.explicit_max_ttl ≡ 0
  pub no_period : x.period ≡ 0

-- the token's end, and what it may be at most at this clock
pub record EndsInTime (clock : ℕ) (x : Token) : Type 0 where
  pub endless : x.ends ≡ None → MayBeEndless x
  -- its own longest time after its issue, if it has one
  pub own : (end : ℕ) → x.ends ≡ Some end → x.explicit_max_ttl ≢ 0 → end ≤ x.issued + x.explicit_max_ttl
  -- 32 days after it, if it has no period
  pub longest : (end : ℕ) → x.ends ≡ Some end → x.period ≡ 0 → end ≤ x.issued + 2764800
  -- and its period from now on, if it has one
  pub periodic : (end : ℕ) → x.ends ≡ Some end → x.period ≢ 0 → end ≤ clock + x.period

-- each token of the broker ends in time
abbrev pub AllEndInTime : Broker → Type 0
AllEndInTime b = (q : Text) (x : Token) → get b.tokens q ≡ Some x → EndsInTime b.clock x

-- before an event, at its clock, and after it
pub record EndInTimeAt (a : Asking) : Type 0 where
  pub before : AllEndInTime a.broker
  pub at_clock : AllEndInTime (clocked a)
  pub after : AllEndInTime a.outcome.next

-- of each event
abbrev pub TokensEndInTime : History → Type 0
TokensEndInTime history = (i : ℕ) (a : Asking) → AskedAt history i a → EndInTimeAt a
