-- The law of what takes a kept response away, as a statement (Vault's documentation, "Response wrapping",
-- "/sys/wrapping/unwrap", "/sys/wrapping/rewrap", "Token auth method (API)").
use Rattle.std.specs.Prelude.{◌≡◌, ◌≤◌, ◌⊎◌, ◌+◌}
use Rattle.histories.specs.Common.{ℕ, max, Some, Text, get, Broker, Waiting, names_of, token_text}
use Rattle.histories.specs.History.{AreAsked, Asking, AskedAt, History, clocked}
use Rattle.histories.specs.KeptResponses.{Rewraps, TakesTokenOut, Unwraps}

-- The time of the response w is over with the request: its TTL after its wrapping token was made is at or before the
-- later of the request's moment and the clock before it.
abbrev pub IsOver : Asking → Waiting → Type 0
IsOver a w = w.created + w.ttl ≤ max a.broker.clock a.moment

-- the response w as a rewrap moves it: its wrapping token is made at the clock, and has another accessor
abbrev pub moved_by : Asking → Waiting → Waiting
moved_by a w = record w { accessor = (names_of a.words).wrapping_accessor; created = (clocked a).clock }

pub record KeptResponsesStay (history : History) : Type 0 where
  -- A response that waits before an event waits after it, as it was and under the same wrapping token, unless its time
  -- is over; or the event revoked the wrapping token by its text or its accessor, spent it as the client token of a
  -- request that is not open, rewrapped it, or unwrapped it.
  pub stays : (i : ℕ) (a : Asking) (t : Text) (w : Waiting) → AskedAt history i a → get a.broker.waiting t ≡ Some w
      → (get a.outcome.next.waiting t ≡ Some w) ⊎ (IsOver a w ⊎ (TakesTokenOut a t ⊎ Unwraps a t w.origin))
  -- After a 200 to a rewrap it waits under the new wrapping token.
  pub moves : (i : ℕ) (a : Asking) (t : Text) (w : Waiting) → AskedAt history i a → Rewraps a t
      → get (clocked a).waiting t ≡ Some w
      → get a.outcome.next.waiting (token_text (names_of a.words).wrapping_token) ≡ Some (moved_by a w)
  -- What is handed out is handed out by a 200 to an unwrap that means its wrapping token.
  pub hands_out : (i : ℕ) (a : Asking) (o : Text) → AskedAt history i a → a.outcome.handed ≡ Some o
      → (t : Text) × Unwraps a t o

-- whatever the first broker is
abbrev pub AllKeptResponsesStay : Type 0
AllKeptResponsesStay = (b : Broker) (history : History) → AreAsked b history → KeptResponsesStay history
