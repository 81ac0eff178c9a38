-- Responses that wait for their wrapping tokens, and what operations on them make of a broker (Vault's documentation,
-- "Response wrapping").
use Rattle.std.specs.Prelude.{◌≡◌, ◌≢◌, ◌⊎◌, ◌∷◌, ℕ, [], Bool, false, nat_lt, Option, Some, option_map}
use Rattle.records.specs.Words.{option_map_or, Text, same, Map, get, put, keep, first_where, Broker, Waiting}
use Rattle.records.specs.Words.{waiting_ends, IsNew, OriginIsGone, WaitedBefore, token_identifier, IsSoundWaiting}
use Rattle.records.specs.Words.{drop_waiting, use_up}

-- ---- what is found

-- whether it is the accessor of the response's wrapping token
abbrev pub has_accessor : Text → Text → Waiting → Bool
has_accessor accessor t w = same w.accessor accessor

-- the wrapping token that has the accessor
abbrev pub find_accessor : Broker → Text → Option Text
find_accessor b accessor = option_map (λ e. e.0) (first_where (has_accessor accessor) b.waiting)

-- the text of the reply that waits under t
abbrev pub text_at : Broker → Text → Option Text
text_at b t = option_map (λ (w : Waiting). w.reply) (get b.waiting t)

-- each response of c waited in b, with its origin and its text
abbrev pub AddsNone : Broker → Broker → Type 0
AddsNone b c = (t : Text) (w : Waiting) → get c.waiting t ≡ Some w → WaitedBefore b w

-- ---- stored and moved

-- the broker in which w waits under t
abbrev pub with_waiting : Broker → Text → Waiting → Broker
with_waiting b t w = record b { waiting = put b.waiting t w }

-- the same, and the identifiers of the wrapping token and of its accessor have been given out
abbrev pub stored : Broker → Text → Waiting → Broker
stored b t w = record (with_waiting b t w) { used = use_up b.used (token_identifier t ∷ w.accessor ∷ []) }

-- The response w may be stored under t: it is sound, both identifiers are new and differ, and its origin is that of t
-- itself, or that of a response which does not wait any more.
pub record MayBeStored (b : Broker) (t : Text) (w : Waiting) : Type 0 where
  pub sound : IsSoundWaiting t w
  pub token_is_new : IsNew b (token_identifier t)
  pub accessor_is_new : IsNew b w.accessor
  pub differ : token_identifier t ≢ w.accessor
  pub origin : (w.origin ≡ token_identifier t) ⊎ OriginIsGone b w.origin

-- the response under another wrapping token, made now; its path, its length of time, its origin and its text stay
abbrev pub moved : Text → ℕ → Waiting → Waiting
moved accessor now w = record w { accessor = accessor; created = now }

-- the broker in which the response of t waits under u
abbrev pub rewrap : Broker → Text → Text → Text → ℕ → Broker
rewrap b t u accessor now =
    option_map_or (λ w. with_waiting (drop_waiting b t) u (moved accessor now w)) (get b.waiting t) b

-- ---- dropped

-- the broker without the response whose wrapping token has the accessor
abbrev pub drop_accessor : Broker → Text → Broker
drop_accessor b accessor = option_map_or (drop_waiting b) (find_accessor b accessor) b

-- whether the response of t ends later than now
abbrev pub still_waits : ℕ → Map Waiting → Text → Bool
still_waits now ws t = option_map_or (λ w. nat_lt now (waiting_ends w)) (get ws t) false

-- the broker without the responses that have come to their end by now
abbrev pub without_ended : Broker → ℕ → Broker
without_ended b now = record b { waiting = keep (still_waits now b.waiting) b.waiting }
