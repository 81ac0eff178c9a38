-- Where identifiers are (this project's definition).
use Rattle.std.specs.Prelude.{◌≡◌, ◌≢◌, ◌-◌, drop, length, Option, Some, None, option_map, option_and_then}
use Rattle.broker_types.specs.Text.{Text}
use Rattle.broker_types.specs.Map.{get}
use Rattle.broker_types.specs.Token.{Token, Lease}
use Rattle.broker_types.specs.Broker.{Broker, Waiting}

-- a place for an identifier: that of a token, its accessor, a lease of a token by its id, the lease's credential, a
-- wrapping token, its accessor
pub data Place : Type 0 where
  token : Text → Place
  accessor : Text → Place
  lease : Text → Text → Place
  credential : Text → Text → Place
  wrapping_token : Text → Place
  wrapping_accessor : Text → Place

-- the identifier of a token: what follows `hvs.`
abbrev pub token_identifier : Text → Text
token_identifier t = drop 4 t

-- the identifier of a lease: the last 36 bytes of its id
abbrev pub lease_identifier : Text → Text
lease_identifier lease_id = drop (length lease_id - 36) lease_id

-- the lease that the token t has under the id
abbrev pub lease_of : Broker → Text → Text → Option Lease
lease_of b t lease_id = option_and_then (λ (x : Token). get x.leases lease_id) (get b.tokens t)

-- the identifier in the place
abbrev pub identifier_at : Broker → Place → Option Text
identifier_at b (token t) = option_map (λ _. token_identifier t) (get b.tokens t)
identifier_at b (accessor t) = option_map (λ (x : Token). x.accessor) (get b.tokens t)
identifier_at b (lease t lease_id) = option_map (λ _. lease_identifier lease_id) (lease_of b t lease_id)
identifier_at b (credential t lease_id) = option_map (λ (l : Lease). l.credential) (lease_of b t lease_id)
identifier_at b (wrapping_token t) = option_map (λ _. token_identifier t) (get b.waiting t)
identifier_at b (wrapping_accessor t) = option_map (λ (w : Waiting). w.accessor) (get b.waiting t)

-- the identifier was given out
abbrev pub IsUsed : Broker → Text → Type 0
IsUsed b i = get b.used i ≢ None

-- each identifier is in one place
abbrev pub OnePlaceEach : Broker → Type 0
OnePlaceEach b = (p q : Place) (i : Text) → identifier_at b p ≡ Some i → identifier_at b q ≡ Some i → p ≡ q

-- each identifier in a place was given out
abbrev pub AllUsed : Broker → Type 0
AllUsed b = (p : Place) (i : Text) → identifier_at b p ≡ Some i → IsUsed b i

-- the token or wrapping token that the place is of
abbrev pub place_token : Place → Text
place_token (token t) = t
place_token (accessor t) = t
place_token (lease t lease_id) = t
place_token (credential t lease_id) = t
place_token (wrapping_token t) = t
place_token (wrapping_accessor t) = t
