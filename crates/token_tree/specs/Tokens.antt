-- Tokens as rows: which rows are those of a broker's tokens, and what operations on tokens make of it (Vault's
-- documentation, "Tokens").
use Rattle.std.specs.Prelude.{◌≡◌, ◌≢◌, ◌∷◌, ◌&&◌, ℕ, List, [], Bool, Option, Some, None, is_some, is_none, map}
use Rattle.records.specs.Words.{from_entries, IsDistinct, Text, same, Map, get, put, change, empty, entries, keys}
use Rattle.records.specs.Words.{Token, alive_at, Broker, OnePlaceEach, token_identifier, IsNew, use_up, Forms}
use Rattle.records.specs.Words.{SoundTokens, IsSoundToken, has, of_tokens, Tells, Table}

-- The rows of tokens and accessors are those of the broker b, whose tokens are sound, and which has each identifier in
-- one place. This holds within a request too, where a caller may have spent its last use.
pub record RepresentsTokens (forms : Forms) (rows : Table) (b : Broker) : Type 0 where
  pub sound : SoundTokens forms b.tokens
  pub one_place : OnePlaceEach b
  pub tells : Tells of_tokens rows b

-- ---- single tokens

-- whether it is the accessor of the token
abbrev pub has_accessor : Text → Text → Token → Bool
has_accessor accessor t x = same x.accessor accessor

-- the token of each accessor
abbrev pub by_accessor : Broker → Map Text
by_accessor b = from_entries (map (λ e. (e.1.accessor, e.0)) (entries b.tokens))

-- the token that the accessor names
abbrev pub find_accessor : Broker → Text → Option Text
find_accessor b accessor = get (by_accessor b) accessor

-- the accessors of all tokens, in the order of their bytes
abbrev pub accessors_of : Broker → List Text
accessors_of b = keys (by_accessor b)

-- the broker with the token x at t
abbrev pub with_token : Broker → Text → Token → Broker
with_token b t x = record b { tokens = put b.tokens t x }

-- the same, and the identifiers of the token and of its accessor have been given out
abbrev pub created : Broker → Text → Token → Broker
created b t x = record (with_token b t x) { used = use_up b.used (token_identifier t ∷ x.accessor ∷ []) }

-- The token x may be made at t: it is sound, both its identifiers are new and differ, its parent is a token, it has no
-- leases, and its last use is not spent.
pub record MayBeMade (forms : Forms) (b : Broker) (t : Text) (x : Token) : Type 0 where
  pub sound : IsSoundToken forms t x
  pub token_is_new : IsNew b (token_identifier t)
  pub accessor_is_new : IsNew b x.accessor
  pub differ : token_identifier t ≢ x.accessor
  pub parent : (p : Text) → x.parent ≡ Some p → get b.tokens p ≢ None
  pub no_lease : x.leases ≡ empty
  pub unspent : x.uses_left ≢ Some 0

-- the token with another end
abbrev pub with_end : ℕ → Token → Token
with_end ends x = record x { ends = Some ends }

-- the broker whose token t has another end
abbrev pub renew : Broker → Text → ℕ → Broker
renew b t ends = record b { tokens = change b.tokens t (with_end ends) }

-- ---- the end of tokens

-- the broker without the tokens that have come to their end by now, and without all under them; each token that is left
-- has its leases that end later (rows of leases are not of this part)
abbrev pub without_expired : Broker → ℕ → Broker
without_expired b now = record b { tokens = alive_at now b.tokens }

-- whether t is a token of b, and none of c
abbrev pub has_ended : Broker → Broker → Text → Bool
has_ended b c t = is_some (get b.tokens t) && is_none (get c.tokens t)

-- the texts that pass, each once
pub record AreEach (passes : Text → Bool) (list : List Text) : Type 0 where
  pub once : IsDistinct same list
  pub exact : (t : Text) → has list t ≡ passes t

-- the tokens of b that are none of c, each once
abbrev pub AreEnded : Broker → Broker → List Text → Type 0
AreEnded b c list = AreEach (has_ended b c) list
